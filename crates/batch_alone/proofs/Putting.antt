-- What the loops put, step by step.
use Rattle.std.proofs.Common.{◌≡◌, ◌<◌, ◌≤◌, ◌+◌, ℕ, suc, List, [], ◌∷◌, ◌++◌, length, map, take, drop, get_or, Option, Some, None, sym, refl, ap, ◌∙◌, subst, arith, append_assoc, length-append, length-take-le}
use Rattle.std.specs.Prelude.{slice_get}
use Rattle.std.specs.List.{range_with_len}
use Rattle.std.proofs.lemmas.List.{ext_get_or, get_or-map, length-map, map-id, take-append-drop}
use Rattle.std.proofs.lemmas.List.FromFn.{map-range_with_len_more, length-range_with_len}
use Rattle.std.proofs.Math.Seq.{take-append_seam, drop-append_seam, set-append_seam, drop-cons}
use Rattle.batch_plans.specs.declared.plan.CallLine.{CallLine}
use Rattle.batch_plans.specs.declared.replies.Batch.{Batch}
use Rattle.batch_plans.specs.declared.replies.Reply.{Reply}
use Rattle.batch_plans.specs.AnswersText.{reply_count, UsesUp}
use Rattle.batch_alone.specs.Own.{put_first, put_at, with_own}
use Rattle.batch_alone.specs.Tables.{SoFar, next_stamp, with_places}
use Rattle.batch_alone.proofs.OwnLines.{uses_first, with_own-first, first_of}

-- ---- one place more

range_more : (a n : ℕ) → range_with_len a (n + 1) ≡ range_with_len a n ++ (a + n) ∷ []
range_more a n =
    sym (map-id (range_with_len a (n + 1))) ∙ map-range_with_len_more (λ (k : ℕ). k) a n (a + n) refl
    ∙ ap (λ ks. ks ++ (a + n) ∷ []) (map-id (range_with_len a n))

pub place_more : (t : SoFar) (n : ℕ) (now : SoFar) (stamp : ℕ) (pushed : List ℕ)
    → now ≡ with_places n t → stamp ≡ next_stamp now → pushed ≡ now.stamps ++ stamp ∷ []
    → record now { stamps = pushed } ≡ with_places (n + 1) t
place_more t n now stamp pushed is next push =
    let s = next_stamp t in
    let long : next_stamp (with_places n t) ≡ s + n =
    (let a = length-append t.stamps (range_with_len s n) in
    let b = length-range_with_len s n in omega arith) in
    let stamp_is : stamp ≡ s + n = next ∙ ap next_stamp is ∙ long in
    let stamps : pushed ≡ t.stamps ++ range_with_len s (n + 1) =
    push ∙ (λ i. (is i).stamps ++ stamp_is i ∷ [])
    ∙ append_assoc t.stamps (range_with_len s n) ((s + n) ∷ [])
    ∙ ap (λ ks. t.stamps ++ ks) (sym (range_more s n)) in
    (λ i. record { notes = (is i).notes; stamps = stamps i })

-- ---- element by element

none_of : {X : Type 0} (xs : List X) → length xs ≡ 0 → xs ≡ []
none_of [] e = refl
none_of (x ∷ xs) e = absurd (omega arith)

pub mapped : {X : Type 0} (f : X → X) (old new : List X) (i : ℕ) → length new ≡ length old
    → length new ≤ i → ((k : ℕ) (d : X) → k < i → get_or new k d ≡ f (get_or old k d))
    → new ≡ map f old
mapped f [] new i size end each = none_of new size
mapped f (x ∷ old) new i size end each =
    ext_get_or x new (map f (x ∷ old)) (size ∙ sym (length-map (x ∷ old) f))
    (λ k low. each k x (omega arith) ∙ sym (get_or-map f (x ∷ old) k x x (omega arith)))

-- ---- own replies

pub with_own_same : (f g : ℕ → CallLine → Option Reply) (number : ℕ) (cs : List CallLine)
    (given : List Reply)
    → ((k : ℕ) (call : CallLine) → k < number + length cs → f k call ≡ g k call)
    → with_own f number cs given ≡ with_own g number cs given
with_own_same f g number [] given same = refl
with_own_same f g number (call ∷ cs) given same =
    let count = reply_count call (slice_get given 0) in
    (λ i. put_first (same number call (omega arith) i) (take count given)
    ++ with_own_same f g (number + 1) cs (drop count given)
    (λ k other low. same k other (omega arith)) i)

put_length : (o : Option Reply) (own : List Reply) → length (put_first o own) ≡ length own
put_length None own = refl
put_length (Some r) [] = refl
put_length (Some r) (x ∷ own) = refl

put_among : (o : Option Reply) (pre own more : List Reply) → 0 < length own
    → put_at o (length pre) (pre ++ (own ++ more)) ≡ pre ++ (put_first o own ++ more)
put_among None pre own more some = refl
put_among (Some r) pre [] more some = absurd (omega arith)
put_among (Some r) pre (x ∷ own) more some = set-append_seam pre x (own ++ more) r

-- a call's replies stand behind those of the calls before it
pub record Stands (call : CallLine) (at : ℕ) (replies : List Reply) : Type 0 where
  pub there : at < length replies
  pub few : at + reply_count call (slice_get (drop at replies) 0) ≤ length replies

-- and then those of the next call do
pub record Next (own : ℕ → CallLine → Option Reply) (number : ℕ) (call : CallLine)
    (cs : List CallLine) (at next : ℕ) (replies new : List Reply) : Type 0 where
  pub size : length new ≡ length replies
  pub low : next ≤ length new
  pub used : (guesses : List Batch) × UsesUp cs (drop next new) guesses
  pub put : take next new ++ with_own own (number + 1) cs (drop next new)
      ≡ take at replies ++ with_own own number (call ∷ cs) (drop at replies)

module _ (call : CallLine) (cs : List CallLine) (at : ℕ) (replies : List Reply)
    (guesses : List Batch) (low : at ≤ length replies)
    (uses : UsesUp (call ∷ cs) (drop at replies) guesses) where
  abbrev pre : List Reply
  pre = take at replies

  size_pre : length pre ≡ at
  size_pre = length-take-le at replies low

  pub stands : Stands call at replies
  stands =
      let u = uses_first uses in
      let all : replies ≡ pre ++ (u.own ++ u.more) =
      sym (take-append-drop at replies) ∙ ap (λ rs. pre ++ rs) u.replies_are in
      let count : reply_count call (slice_get (drop at replies) 0) ≡ length u.own =
      ap (λ rs. reply_count call (slice_get rs 0)) u.replies_are
      ∙ ap (reply_count call) (first_of u.own u.more u.has.some) ∙ sym u.has.count in
      let size = ap length all in
      let a = length-append pre (u.own ++ u.more) in
      let b = length-append u.own u.more in
      let some = u.has.some in
      let p = size_pre in
      record { there = omega arith; few = omega arith }

  pub next_stands : (own : ℕ → CallLine → Option Reply) (number next : ℕ) (new : List Reply)
      → next ≡ at + reply_count call (slice_get (drop at replies) 0)
      → new ≡ put_at (own number call) at replies → Next own number call cs at next replies new
  next_stands own number next new next_is new_is =
      let u = uses_first uses in
      let o = own number call in
      let mine = put_first o u.own in
      let all : replies ≡ pre ++ (u.own ++ u.more) =
      sym (take-append-drop at replies) ∙ ap (λ rs. pre ++ rs) u.replies_are in
      let count : reply_count call (slice_get (drop at replies) 0) ≡ length u.own =
      ap (λ rs. reply_count call (slice_get rs 0)) u.replies_are
      ∙ ap (reply_count call) (first_of u.own u.more u.has.some) ∙ sym u.has.count in
      let put : new ≡ (pre ++ mine) ++ u.more =
      new_is ∙ (λ i. put_at o (sym size_pre i) (all i)) ∙ put_among o pre u.own u.more u.has.some
      ∙ sym (append_assoc pre mine u.more) in
      let long : length (pre ++ mine) ≡ next =
      length-append pre mine ∙ (λ i. size_pre i + put_length o u.own i)
      ∙ (let c = count in let n = next_is in
      let e : at + length u.own ≡ next = omega arith in e) in
      let taken : take next new ≡ pre ++ mine =
      (λ i. take (sym long i) (put i)) ∙ take-append_seam (pre ++ mine) u.more in
      let left : drop next new ≡ u.more =
      (λ i. drop (sym long i) (put i)) ∙ drop-append_seam (pre ++ mine) u.more in
      let new_size : length new ≡ length (pre ++ mine) + length u.more =
      ap length put ∙ length-append (pre ++ mine) u.more in
      let old_size : length replies ≡ length pre + (length u.own + length u.more) =
      ap length all ∙ length-append pre (u.own ++ u.more)
      ∙ ap (λ n. length pre + n) (length-append u.own u.more) in
      let mine_size : length (pre ++ mine) ≡ length pre + length u.own =
      length-append pre mine ∙ ap (λ n. length pre + n) (put_length o u.own) in
      record {
        size = omega arith;
        low = omega arith;
        used = (u.later, subst (λ rs. UsesUp cs rs u.later) (sym left) u.uses);
        put = (λ i. taken i ++ with_own own (number + 1) cs (left i))
            ∙ append_assoc pre mine (with_own own (number + 1) cs u.more)
            ∙ ap (λ rs. pre ++ rs)
            (sym (with_own-first own number call cs u.own u.more u.kept u.has))
            ∙ ap (λ rs. pre ++ with_own own number (call ∷ cs) rs) (sym u.replies_are);
      }

pub next_call : (calls : List CallLine) (j : ℕ) (d : CallLine) → j < length calls
    → drop j calls ≡ get_or calls j d ∷ drop (j + 1) calls
next_call calls j d low = drop-cons calls j d low
    ∙ ap (λ k. get_or calls j d ∷ drop k calls) (let e : suc j ≡ j + 1 = omega arith in e)
