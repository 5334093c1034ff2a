-- Which names are live, by a bit for each.
use Rattle.std.proofs.Common.{◌≡◌, ℕ, zero, suc, ◌+◌, ◌-◌, ◌<◌, ◌&&◌, ◌==◌, Bool, true, false, cond, List, [], ◌∷◌, ◌++◌, length, take, get_or, get_or-set_same, get_or-set_other, Some, refl, sym, ap, ◌∙◌, subst, inl, inr, eq-eqb, ne_eqb, arith}
use Rattle.std.specs.Prelude.{slice_get, slice_index_or, slice_set}
use Rattle.std.specs.List.{list_all, range_with_len}
use Rattle.std.proofs.lemmas.Bool.{cases_eq}
use Rattle.std.proofs.lemmas.List.{take_more, length-set, get_or_default}
use Rattle.call_places.specs.declared.entries.Act.{Act}
use Rattle.call_places.specs.declared.entries.Act.TheVariants.{Add, Retire, Look}
use Rattle.call_places.specs.declared.entries.Entry.{Entry}
use Rattle.call_places.specs.declared.entries.Step.{Step}
use Rattle.call_places.specs.declared.entries.Step.TheVariants.{Sealed, SealLimit, Opened, Failed, OpenLimit, Note}
use Rattle.call_places.specs.Notes.{live_at}
use Rattle.call_places.proofs.Live.{live_after, live_at-push}
use Rattle.context_books.specs.LiveChecks.{is_same_truth, tells_live_after, tells_live_at}
use Rattle.journal_check.specs.Lives.{changed}

-- ---- one bit for each name

-- of each name there is a bit that tells whether it is live
abbrev pub AreBits : List Bool → List Entry → Type 0
AreBits lives notes = (k : ℕ) → k < length lives → slice_index_or lives k false ≡ live_at notes k

changed_bit : (lives : List Bool) (name : ℕ) (act : Act) (live : Bool) (k : ℕ) → k < length lives
    → slice_index_or (changed lives name act) k false ≡ live_after k (slice_index_or lives k false) (Note name act live)
changed_bit lives name Add live k low = elim (cases_eq name k) [
  | inl e ↦
      subst (λ n. slice_index_or (slice_set lives n true) k false ≡ cond (n == k) true (slice_index_or lives k false)) (sym e)
      (get_or-set_same lives k true false low ∙ sym (ap (λ b. cond b true (slice_index_or lives k false)) (eq-eqb k k refl)))
  | inr ne ↦
      get_or-set_other lives name k true false (λ e. ne (sym e)) ∙ sym (ap (λ b. cond b true (slice_index_or lives k false)) (ne_eqb name k ne))
]
changed_bit lives name Retire live k low = elim (cases_eq name k) [
  | inl e ↦
      subst (λ n. slice_index_or (slice_set lives n false) k false ≡ cond (n == k) false (slice_index_or lives k false)) (sym e)
      (get_or-set_same lives k false false low ∙ sym (ap (λ b. cond b false (slice_index_or lives k false)) (eq-eqb k k refl)))
  | inr ne ↦
      get_or-set_other lives name k false false (λ e. ne (sym e)) ∙ sym (ap (λ b. cond b false (slice_index_or lives k false)) (ne_eqb name k ne))
]
changed_bit lives name Look live k low = refl

pub changed_size : (lives : List Bool) (name : ℕ) (act : Act) → length (changed lives name act) ≡ length lives
changed_size lives name Add = length-set lives name true
changed_size lives name Retire = length-set lives name false
changed_size lives name Look = refl

-- the bits after one note more
pub next_bits : (lives : List Bool) (notes : List Entry) (i : ℕ) (e : Entry) (name : ℕ) (act : Act) (live : Bool) → i < length notes → e ≡ get_or notes i e
    → e.step ≡ Note name act live → AreBits lives (take i notes) → AreBits (changed lives name act) (take (i + 1) notes)
next_bits lives notes i e name act live low is step bits k few =
    let size = changed_size lives name act in
    let within : k < length lives = omega arith in
    changed_bit lives name act live k within
    ∙ ap (λ b. live_after k b (Note name act live)) (bits k within)
    ∙ ap (λ s. live_after k (live_at (take i notes) k) s) (sym step)
    ∙ sym (live_at-push (take i notes) e k)
    ∙ ap (λ (es : List Entry). live_at es k) (ap (λ (f : Entry). take i notes ++ f ∷ []) is ∙ sym (take_more notes i e low))

-- ---- what notes tell

module _ (notes : List Entry) where
  abbrev pub tells : ℕ → Bool
  tells i = tells_live_at notes i (slice_get notes i)

  abbrev pub tell_from : ℕ → Bool
  tell_from i = list_all tells (range_with_len i (length notes - i))

  from_next : (i : ℕ) → i < length notes → tell_from i ≡ (tells i && tell_from (i + 1))
  from_next i low =
      let one_more : length notes - i ≡ suc (length notes - (i + 1)) = omega arith in
      ap (λ n. list_all tells (range_with_len i n)) one_more

  get_is : (xs : List Entry) (i : ℕ) (e : Entry) → i < length xs → e ≡ get_or xs i e → slice_get xs i ≡ Some e
  get_is [] i e low is = absurd (omega arith)
  get_is (x ∷ xs) zero e low is = ap (λ (y : Entry). Some y) (sym is)
  get_is (x ∷ xs) (suc i) e low is = get_is xs i e (omega arith) is

  tells_at : (i : ℕ) (e : Entry) → i < length notes → e ≡ get_or notes i e → tells i ≡ tells_live_after (take i notes) e.step
  tells_at i e low is = ap (tells_live_at notes i) (get_is notes i e low is)

  -- a note that tells the truth
  pub goes_on : (lives : List Bool) (i : ℕ) (e : Entry) (name : ℕ) (act : Act) (live : Bool) (total : Bool) → i < length notes → e ≡ get_or notes i e
      → e.step ≡ Note name act live → name < length lives → AreBits lives (take i notes) → is_same_truth live (slice_index_or lives name false) ≡ true → tell_from i ≡ total → tell_from (i + 1) ≡ total
  goes_on lives i e name act live total low is step few bits same so_far =
      let told : tells i ≡ true =
      tells_at i e low is ∙ ap (tells_live_after (take i notes)) step ∙ sym (ap (is_same_truth live) (bits name few)) ∙ same in
      sym (from_next i low ∙ ap (λ b. b && tell_from (i + 1)) told) ∙ so_far

  -- one that doesn't
  pub fails : (lives : List Bool) (i : ℕ) (e : Entry) (name : ℕ) (act : Act) (live : Bool) (total : Bool) → i < length notes → e ≡ get_or notes i e
      → e.step ≡ Note name act live → name < length lives → AreBits lives (take i notes) → is_same_truth live (slice_index_or lives name false) ≡ false → tell_from i ≡ total → false ≡ total
  fails lives i e name act live total low is step few bits other so_far =
      let told : tells i ≡ false =
      tells_at i e low is ∙ ap (tells_live_after (take i notes)) step ∙ sym (ap (is_same_truth live) (bits name few)) ∙ other in
      sym (from_next i low ∙ ap (λ b. b && tell_from (i + 1)) told) ∙ so_far

  -- an entry that is no note
  pub no_note : (i : ℕ) (e : Entry) (total : Bool) → i < length notes → e ≡ get_or notes i e → ((before : List Entry) → tells_live_after before e.step ≡ false)
      → tell_from i ≡ total → false ≡ total
  no_note i e total low is none so_far =
      sym (from_next i low ∙ ap (λ b. b && tell_from (i + 1)) (tells_at i e low is ∙ none (take i notes))) ∙ so_far

  pub not_told : (before : List Entry) (step : Step) → ((name : ℕ) (act : Act) (live : Bool) → step ≡ Note name act live → ⊥) → tells_live_after before step ≡ false
  not_told before Sealed none = refl
  not_told before SealLimit none = refl
  not_told before Opened none = refl
  not_told before Failed none = refl
  not_told before OpenLimit none = refl
  not_told before (Note name act live) none = absurd (none name act live refl)

  -- an entry of the list
  pub itself : (i : ℕ) (d : Entry) → i < length notes → get_or notes i d ≡ get_or notes i (get_or notes i d)
  itself i d low = get_or_default notes i d (get_or notes i d) low
