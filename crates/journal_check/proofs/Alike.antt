-- Batches whose calls ask for as many items of the same contexts: which journals are legal is the same.
use Rattle.std.proofs.Common.{◌≡◌, ℕ, ◌+◌, ◌&&◌, ◌||◌, not, Bool, cond, List, [], ◌∷◌, length, map, take, Some, refl, sym, ap, ◌∙◌}
use Rattle.std.specs.Prelude.{nat_lt, slice_index_or}
use Rattle.std.specs.List.{list_all, flat_map, range_with_len}
use Rattle.std.proofs.lemmas.List.{length-map}
use Rattle.call_places.specs.declared.entries.Place.{Place}
use Rattle.call_places.specs.declared.entries.Mark.{Mark}
use Rattle.context_books.specs.Batches.{Batch, place, on, lane_of, own_places}
use Rattle.context_books.specs.Merging.{all_asked, own_spots}
use Rattle.context_books.specs.Histories.{places, journals_of}
use Rattle.context_books.specs.Legal.{is_same_place}
use Rattle.context_books.specs.Checks.{are_same, goes_on, is_unbroken, is_legal, is_same_mark, is_same_spot, is_legal_history, by_stamps}
use Rattle.result_lines.specs.Journals.{is_journal, broken_journal, stamps_rise}
use Rattle.journal_check.specs.declared.asks.Asked.{Asked}
use Rattle.journal_check.specs.Asks.{size_of, sizes_of, goes_on_by, batch_from}
use Rattle.journal_check.specs.Histories.{spots_from}
use Rattle.journal_check.specs.Piles.{asked_on, kept_from}
use Rattle.journal_check.proofs.Asking.{lane_by_sizes, on_by_sizes, sizes_from}

module _ (b d : Batch) (alike : sizes_of b ≡ sizes_of d) where
  many : length b ≡ length d
  many = sym (length-map b (map size_of)) ∙ ap length alike ∙ length-map d (map size_of)

  asks_same : (lane : ℕ) → all_asked lane 0 (lane_of b lane) ≡ all_asked lane 0 (lane_of d lane)
  asks_same lane =
      lane_by_sizes b lane ∙ ap (λ (s : List (List Asked)). spots_from lane 0 (slice_index_or s lane [])) alike ∙ sym (lane_by_sizes d lane)

  goes_same : (p : Place) → goes_on b p ≡ goes_on d p
  goes_same p = on_by_sizes b p ∙ ap (λ (s : List (List Asked)). goes_on_by s p) alike ∙ sym (on_by_sizes d p)

  unbroken_same : (ps : List Place) → is_unbroken b ps ≡ is_unbroken d ps
  unbroken_same [] = refl
  unbroken_same (p ∷ []) = ap not (goes_same p)
  unbroken_same (p ∷ q ∷ ps) = (λ i.
      (not (goes_same p i) || is_same_place q (place p.lane p.call (p.item + 1))) && unbroken_same (q ∷ ps) i)

  legal_same : (context : ℕ) (ps : List Place) → is_legal b context ps ≡ is_legal d context ps
  legal_same context ps = (λ i.
      (list_all (λ p. nat_lt p.lane (many i)) ps
      && list_all (λ lane. are_same is_same_place (own_places lane ps) (on context (asks_same lane i))) (range_with_len 0 (many i)))
      && unbroken_same ps i)

  pub journal_same : (stamps : Bool) (context : ℕ) (marks : List Mark) → is_journal stamps b context marks ≡ is_journal stamps d context marks
  journal_same stamps context marks = ap (λ r. r && (not stamps || stamps_rise marks)) (legal_same context (places marks))

  pub broken_same : (stamps : Bool) (context : ℕ) (journals : List (List Mark)) → broken_journal stamps b context journals ≡ broken_journal stamps d context journals
  broken_same stamps context [] = refl
  broken_same stamps context (marks ∷ more) = (λ i. cond (journal_same stamps context marks i) (broken_same stamps (context + 1) more i) (Some context))

  pub history_same : (journals : List (List Mark)) → is_legal_history b journals ≡ is_legal_history d journals
  history_same journals =
      let h = by_stamps journals in
      (λ i.
      are_same (are_same is_same_mark) journals (journals_of (length journals) h)
      && ((list_all (λ s. nat_lt s.context (length journals) && nat_lt s.place.lane (many i)) h
      && list_all (λ lane. are_same is_same_spot (own_spots lane h) (asks_same lane i)) (range_with_len 0 (many i)))
      && unbroken_same (map (λ s. s.place) h) i))

  pub asked_same : (context : ℕ) → asked_on b context ≡ asked_on d context
  asked_same context = (λ i. flat_map (λ lane. on context (asks_same lane i)) (range_with_len 0 (many i)))

  pub kept_same : (context : ℕ) (journals : List (List Mark)) → kept_from b context journals ≡ kept_from d context journals
  kept_same context [] = refl
  kept_same context (marks ∷ more) = (λ i. take (length (asked_same context i) + 1) marks ∷ kept_same (context + 1) more i)

-- of asks that were made from the sizes of these
pub made : (sizes : List (List Asked)) (batch : Batch) → sizes ≡ sizes_of batch → sizes_of (batch_from sizes) ≡ sizes_of batch
made sizes batch is = sizes_from sizes ∙ is
