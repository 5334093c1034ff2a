-- An entry more, under quotas.
use Rattle.std.proofs.Common.{◌≡◌, ◌≢◌, ℕ, ◌+◌, ◌-◌, ◌<◌, ◌≤◌, ◌==◌, List, [], ◌∷◌, ◌++◌, length, set, cond, sum, sym, ap, ◌∙◌, arith, length-append, length-set, eq-eqb, ne_eqb, get_or-set_same, get_or-set_other}
use Rattle.std.specs.Prelude.{slice_index}
use Rattle.std.proofs.lemmas.List.Sums.{sum_by-set, get_or-le-sum_by}
use Rattle.std.proofs.lemmas.List.Elements.{filter-append}
use mathlib.Core.Logic.{dite}
use native.Mathlib.Decide.{ℕ_discrete}
use Rattle.call_places.specs.declared.entries.Entry.{Entry}
use Rattle.call_places.specs.Entries.{own}
use Rattle.call_places.specs.Quotas.{AreLeft}

pub own-same : (lane : ℕ) (entries : List Entry) (e : Entry) → e.place.lane ≡ lane → length (own lane (entries ++ e ∷ [])) ≡ length (own lane entries) + 1
own-same lane entries e is =
    let one : length (own lane (e ∷ [])) ≡ 1 = ap (λ b. length (cond b (e ∷ []) [])) (eq-eqb e.place.lane lane is) in
    ap length (filter-append (λ (x : Entry). x.place.lane == lane) entries (e ∷ [])) ∙ length-append (own lane entries) (own lane (e ∷ [])) ∙ ap (λ n. length (own lane entries) + n) one

own-apart : (lane : ℕ) (entries : List Entry) (e : Entry) → e.place.lane ≢ lane → length (own lane (entries ++ e ∷ [])) ≡ length (own lane entries)
own-apart lane entries e apart =
    let none : length (own lane (e ∷ [])) ≡ 0 = ap (λ b. length (cond b (e ∷ []) [])) (ne_eqb e.place.lane lane apart) in
    ap length (filter-append (λ (x : Entry). x.place.lane == lane) entries (e ∷ [])) ∙ length-append (own lane entries) (own lane (e ∷ [])) ∙ (let z : length (own lane entries) + length (own lane (e ∷ [])) ≡ length (own lane entries) = omega (arith, none) in z)

-- no lane has an entry
pub all_left : (quotas : List ℕ) → AreLeft quotas quotas []
all_left quotas = record { lanes = omega arith; each = λ lane below. omega arith; all = omega arith }

-- one less is left to the lane of an entry
pub one_left_less : (quotas left : List ℕ) (entries : List Entry) (e : Entry) (v : ℕ) → AreLeft quotas left entries
    → e.place.lane < length quotas → length (own e.place.lane entries) < slice_index quotas e.place.lane → v ≡ slice_index left e.place.lane
    → AreLeft quotas (set left e.place.lane (v - 1)) (entries ++ e ∷ [])
one_left_less quotas left entries e v are lane room here =
    let l = e.place.lane in
    let lanes = are.lanes in
    let in_left : l < length left = omega arith in
    let each = are.each l lane in
    let some_left : 0 < v = omega arith in
    let set_sum = sum_by-set (λ (n : ℕ). n) left l (v - 1) 0 in_left in
    let all = are.all in
    let longer = length-append entries (e ∷ []) in record {
      lanes = length-set left l (v - 1) ∙ are.lanes;
      each = λ k below. dite (ℕ_discrete k l)
          (λ (is : k ≡ l).
          let a : slice_index (set left l (v - 1)) k ≡ v - 1 = ap (slice_index (set left l (v - 1))) is ∙ get_or-set_same left l (v - 1) 0 in_left in
          let c = own-same k entries e (sym is) in
          let d = are.each k below in
          let f : slice_index left k ≡ v = ap (slice_index left) is ∙ sym here in
          omega arith)
          (λ (apart : k ≢ l).
          let a : slice_index (set left l (v - 1)) k ≡ slice_index left k = get_or-set_other left l k (v - 1) 0 apart in
          let c = own-apart k entries e (λ q. apart (sym q)) in
          let d = are.each k below in
          omega arith);
      all = omega arith;
    }

-- what is left to a lane is among all that is left
pub room_for : (quotas left : List ℕ) (entries : List Entry) (lane count : ℕ) → AreLeft quotas left entries
    → lane < length quotas → length (own lane entries) + count ≤ slice_index quotas lane → length entries + count ≤ sum quotas
room_for quotas left entries lane count are below room =
    let lanes = are.lanes in
    let each = are.each lane below in
    let all = are.all in
    let one = get_or-le-sum_by (λ (n : ℕ). n) left lane 0 (omega arith) in
    omega arith
