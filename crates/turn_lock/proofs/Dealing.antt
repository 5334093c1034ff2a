-- The passes of a lock that was just made.
use Rattle.std.proofs.Common.{◌≡◌, ℕ, zero, suc, ◌+◌, List, [], ◌∷◌, ◌++◌, length, take, drop, sym, refl, ap, ◌∙◌, subst, arith}
use Rattle.atomic_table.specs.Seated.{TableId}
use Rattle.turn_lock.specs.declared.views.View.{View}
use Rattle.turn_lock.specs.Passes.{LockId, PassView, fresh_pass, fresh_from}
use Rattle.turn_lock.specs.Seats.{terms_of}

fresh_from-suc : (lock : LockId) (k n : ℕ) → fresh_from lock k (suc n) ≡ fresh_from lock k n ++ fresh_pass lock (k + n) ∷ []
fresh_from-suc lock k zero = ap (λ m. fresh_pass lock m ∷ []) (let e : k ≡ k + 0 = omega arith in e)
fresh_from-suc lock k (suc n) = ap (λ l. fresh_pass lock k ∷ l) (fresh_from-suc lock (k + 1) n ∙ ap (λ m. fresh_from lock (k + 1) n ++ fresh_pass lock m ∷ []) (let e : k + 1 + n ≡ k + suc n = omega arith in e))

-- one pass more
pub fresh_from-next : (lock : LockId) (k n : ℕ) → fresh_from lock k (n + 1) ≡ fresh_from lock k n ++ fresh_pass lock (k + n) ∷ []
fresh_from-next lock k n = ap (fresh_from lock k) (let e : n + 1 ≡ suc n = omega arith in e) ∙ fresh_from-suc lock k n

pub length-fresh_from : (lock : LockId) (k n : ℕ) → length (fresh_from lock k n) ≡ n
length-fresh_from lock k zero = refl
length-fresh_from lock k (suc n) = ap suc (length-fresh_from lock (k + 1) n)

drop_all : (xs : List PassView) (x : PassView) → drop (length xs) (xs ++ x ∷ []) ≡ x ∷ []
drop_all [] x = refl
drop_all (y ∷ xs) x = drop_all xs x

take_all : (xs : List PassView) (x : PassView) → take (length xs) (xs ++ x ∷ []) ≡ xs
take_all [] x = refl
take_all (y ∷ xs) x = ap (λ l. y ∷ l) (take_all xs x)

-- the last one goes to the front
pub to_front : (xs : List PassView) (x : PassView) (n : ℕ) → n ≡ length xs → drop n (xs ++ x ∷ []) ++ take n (xs ++ x ∷ []) ≡ x ∷ xs
to_front xs x n is = subst (λ m. drop m (xs ++ x ∷ []) ++ take m (xs ++ x ∷ []) ≡ x ∷ xs) (sym is) (ap (λ l. l ++ take (length xs) (xs ++ x ∷ [])) (drop_all xs x) ∙ ap (λ l. x ∷ l) (take_all xs x))

-- a pass that was made from a badge of this lock
pub fresh_of : (lock : LockId) (pass : PassView) (table : TableId) (views : List View) (number : ℕ) → pass ≡ fresh_pass (record { table = table; terms = terms_of views }) number → table ≡ lock.table → terms_of views ≡ lock.terms → pass ≡ fresh_pass lock number
fresh_of lock pass table views number is a b = is ∙ (λ i. fresh_pass (record { table = a i; terms = b i }) number)
