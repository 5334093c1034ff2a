-- Lists of lanes, one behind the other.
use Rattle.std.proofs.Common.{List, [], ◌∷◌, ◌++◌}
use Rattle.lane_workers.specs.Groups.{Each, EachServed}

pub Each-append : {L : Type 0} (P : L → Type 0) (xs ys : List L) → Each P (xs ++ ys)
    → Each P xs × Each P ys
Each-append P [] ys all = (tt, all)
Each-append P (x ∷ xs) ys all =
    let r = Each-append P xs ys all.1 in
    ((all.0, r.0), r.1)

pub Each-weaker : {L : Type 0} (P Q : L → Type 0) → ((l : L) → P l → Q l) → (ls : List L)
    → Each P ls → Each Q ls
Each-weaker P Q weaker [] all = tt
Each-weaker P Q weaker (l ∷ ls) all = (weaker l all.0, Each-weaker P Q weaker ls all.1)

pub EachServed-append : {L : Type 0} (P : L → L → Type 0) (xs xs' ys ys' : List L)
    → EachServed P xs xs' → EachServed P ys ys' → EachServed P (xs ++ ys) (xs' ++ ys')
EachServed-append P [] [] ys ys' a b = b
EachServed-append P (x ∷ xs) (x' ∷ xs') ys ys' a b =
    (a.0, EachServed-append P xs xs' ys ys' a.1 b)
EachServed-append P [] (x' ∷ xs') ys ys' a b = absurd a
EachServed-append P (x ∷ xs) [] ys ys' a b = absurd a
