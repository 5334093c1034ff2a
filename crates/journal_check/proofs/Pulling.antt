-- A lane's places in a journal, one after another, and their lines.
use Rattle.std.proofs.Common.{◌≡◌, ℕ, zero, suc, ◌+◌, ◌<◌, cond, List, [], ◌∷◌, ◌++◌, length, map, drop, get_or, Some, None, Err, sym, ap, ◌∙◌, eq-eqb, arith}
use Rattle.std.specs.Prelude.{slice_get}
use Rattle.std.proofs.lemmas.Option.{get_or_from_slice_get}
use Rattle.call_places.specs.declared.entries.Place.{Place}
use Rattle.call_places.specs.declared.entries.Mark.{Mark}
use Rattle.context_books.specs.Batches.{own_places}
use Rattle.context_books.specs.Histories.{places}
use Rattle.context_books.proofs.Members.{got}
use Rattle.result_lines.specs.Told.{ReplyView}
use Rattle.result_lines.specs.declared.stop.Stop.{Stop}
use Rattle.result_lines.specs.declared.stop.Stop.TheVariants.{OutOfMemory, Wrong}
use Rattle.result_lines.specs.Replies.{wrong_reply}
use Rattle.journal_check.specs.Walks.{Holds}
use Rattle.journal_check.proofs.Walks.{drop_next}

-- ---- the next place

-- the lane's next place is here
pub found_own : (lane : ℕ) (marks : List Mark) (i from : ℕ) (d m : Mark) → i < length marks → (get_or marks i d).place.lane ≡ lane
    → own_places lane (places (drop i marks)) ≡ own_places lane (places (drop from marks)) → slice_get marks i ≡ Some m
    → own_places lane (places (drop from marks)) ≡ m.place ∷ own_places lane (places (drop (i + 1) marks))
found_own lane marks i from d m lt own so_far at =
    let rest = own_places lane (places (drop (i + 1) marks)) in
    sym so_far
    ∙ ap (λ (ms : List Mark). own_places lane (places ms)) (drop_next marks i d lt)
    ∙ ap (λ b. cond b ((get_or marks i d).place ∷ rest) rest) (eq-eqb (get_or marks i d).place.lane lane own)
    ∙ ap (λ (x : Mark). x.place ∷ rest) (get_or_from_slice_get marks i m d at)

-- what a place has
pub value_in : {X : Type 0} (f : Place → X) (marks : List Mark) (at : ℕ) (m : Mark) → slice_get marks at ≡ Some m → slice_get (map f (places marks)) at ≡ Some (f m.place)
value_in f [] at m is = absurd (let none : None ≡ Some m = is in cc)
value_in f (x ∷ marks) zero m is = let same : x ≡ m = (let one : Some x ≡ Some m = is in cc) in ap (λ (k : Mark). Some (f k.place)) same
value_in f (x ∷ marks) (suc at) m is = value_in f marks at m is

module _ (marks : List Mark) (at : ℕ) (there : at < length marks) (left new : List Place)
    (found : (m : Mark) → slice_get marks at ≡ Some m → left ≡ m.place ∷ new) (p : Place) (ps : List Place) (own : left ≡ p ∷ ps) where
  pub value_here : {X : Type 0} (f : Place → X) (xs : List X) (d : X) → xs ≡ map f (places marks) → get_or xs at d ≡ f p
  value_here {X} f xs d are =
      let m = got marks at there in
      let cons : p ∷ ps ≡ m.0.place ∷ new = sym own ∙ found m.0 m.1 in
      let place_is : p ≡ m.0.place = cc in
      ap (λ (ys : List X). get_or ys at d) are
      ∙ get_or_from_slice_get (map f (places marks)) at (f m.0.place) d (value_in f marks at m.0 m.1) ∙ ap f (sym place_is)

  -- the places behind it
  pub behind_here : new ≡ ps
  behind_here =
      let m = got marks at there in
      let cons : m.0.place ∷ new ≡ p ∷ ps = sym (found m.0 m.1) ∙ own in
      cc

-- ---- lines one after another

-- where the next line halts, all lines do
pub holds_halt : (halt : Stop) (old now new last : List ReplyView) (lines : List (List ℕ)) (line : List ℕ) (more : List (List ℕ))
    → ((rest : List (List ℕ)) → wrong_reply old (lines ++ rest) ≡ wrong_reply now (line ∷ (more ++ rest)))
    → Holds now new (line ∷ []) (Err halt) → Holds old last lines (Err halt)
holds_halt OutOfMemory old now new last lines line more so_far here = tt
holds_halt (Wrong number) old now new last lines line more so_far here = λ rest. so_far rest ∙ here (more ++ rest)

-- a place of so many, and those behind it
pub no_place : Place
no_place = record { lane = 0; call = 0; item = 0 }

pub next_place : (ps more : List Place) (i n : ℕ) → length ps ≡ n → i < n
    → drop i ps ++ more ≡ get_or ps i no_place ∷ (drop (i + 1) ps ++ more)
next_place ps more i n size lt = ap (λ (qs : List Place). qs ++ more) (drop_next ps i no_place (omega arith))

pub next_line : (f : Place → List ℕ) (ps : List Place) (rest : List (List ℕ)) (i n : ℕ) → length ps ≡ n → i < n
    → map f (drop i ps) ++ rest ≡ f (get_or ps i no_place) ∷ (map f (drop (i + 1) ps) ++ rest)
next_line f ps rest i n size lt = ap (λ (qs : List Place). map f qs ++ rest) (drop_next ps i no_place (omega arith))
