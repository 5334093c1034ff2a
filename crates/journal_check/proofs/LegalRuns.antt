-- Legal journals that are run through their contexts.
use Rattle.std.proofs.Common.{◌≡◌, ◌≢◌, ℕ, List, [], ◌∷◌, ◌++◌, map, Option, Some, refl, sym, ap, ◌∙◌, subst, inl, append_assoc}
use Rattle.std.specs.List.{AllPairs}
use Rattle.call_places.specs.declared.entries.Place.{Place}
use Rattle.hpke_context.specs.Answers.{Cipher, Item, Answer, answer, next, due, run as run_items}
use Rattle.context_books.specs.Batches.{Batch, item_of, items_of, item_or_none, IsServed}
use Rattle.context_books.specs.Entries.{numbers_from}
use Rattle.context_books.specs.Legal.{Legal, due_after, before, number_of, reply_of}
use Rattle.context_books.proofs.Members.{In-left, In-right, contains_in}
use Rattle.context_books.specs.Lists.{In}
use Rattle.context_books.proofs.Places.{before_split, not_in_front}
use Rattle.context_books.proofs.Replies.{reply_at}
use Rattle.context_books.proofs.Runs.{due_after-append}
use Rattle.context_books.specs.Runs.{answer_line, answer_line_of}

-- each place of a legal journal is served
pub all_served : (batch : Batch) (context : ℕ) (journal : List Place) → Legal batch context journal → (p : Place) → In p journal → IsServed batch context p
all_served batch context journal legal p here = (legal.served p).0 (contains_in journal p here)

module _ (batch : Batch) (context : ℕ) (c : Cipher) (journal : List Place) (legal : Legal batch context journal) where
  apart : (front rest : List Place) (p : Place) → journal ≡ front ++ (p ∷ rest) → In p front → ⊥
  apart front rest p parts = not_in_front front rest p (subst (AllPairs (λ (a b : Place). a ≢ b)) parts legal.once)

  front_served : (front rest : List Place) → journal ≡ front ++ rest → (q : Place) → In q front → IsServed batch context q
  front_served front rest parts q here = all_served batch context journal legal q (subst (In q) (sym parts) (In-left q front rest here))

  -- the number that is due behind one place more
  due_next : (front : List Place) (p : Place) (x : Item) → item_of batch p ≡ Some (context, x)
      → due_after batch c (front ++ (p ∷ [])) ≡ next (due_after batch c front) (answer c (due_after batch c front) x)
  due_next front p x item = due_after-append batch c front (p ∷ []) ∙ ap (λ (o : Option (ℕ × Item)). due c (due_after batch c front) (item_or_none o [])) item

  lines_on : (front rest : List Place) → journal ≡ front ++ rest
      → map answer_line (run_items c (due_after batch c front) (items_of batch rest)) ≡ map (λ (p : Place). answer_line_of (reply_of batch c journal p)) rest
  lines_on front [] parts = refl
  lines_on front (p ∷ rest) parts =
      let n = due_after batch c front in
      let here = all_served batch context journal legal p (subst (In p) (sym parts) (In-right p front (p ∷ rest) (inl refl))) in
      let x : Item = here.0 in
      let reply : reply_of batch c journal p ≡ Some (answer c n x) =
      ap (λ (ps : List Place). reply_of batch c ps p) parts
      ∙ reply_at batch context c front rest p x (front_served front (p ∷ rest) parts) (apart front rest p parts) here.1 in
      let later = lines_on (front ++ (p ∷ [])) rest (parts ∙ sym (append_assoc front (p ∷ []) rest)) in
      ap (λ (o : Option (ℕ × Item)). map answer_line (run_items c n (item_or_none o (items_of batch rest)))) here.1
      ∙ ap (λ (k : ℕ). answer_line (answer c n x) ∷ map answer_line (run_items c k (items_of batch rest))) (sym (due_next front p x here.1))
      ∙ ap (λ (ls : List (List ℕ)). answer_line (answer c n x) ∷ ls) later
      ∙ ap (λ (o : Option Answer). answer_line_of o ∷ map (λ (q : Place). answer_line_of (reply_of batch c journal q)) rest) (sym reply)

  numbers_on : (front rest : List Place) → journal ≡ front ++ rest
      → numbers_from c (due_after batch c front) (items_of batch rest) ≡ map (number_of batch c journal) rest
  numbers_on front [] parts = refl
  numbers_on front (p ∷ rest) parts =
      let n = due_after batch c front in
      let here = all_served batch context journal legal p (subst (In p) (sym parts) (In-right p front (p ∷ rest) (inl refl))) in
      let x : Item = here.0 in
      let stands : before p journal ≡ front = ap (before p) parts ∙ before_split front rest p (apart front rest p parts) in
      let later = numbers_on (front ++ (p ∷ [])) rest (parts ∙ sym (append_assoc front (p ∷ []) rest)) in
      ap (λ (o : Option (ℕ × Item)). numbers_from c n (item_or_none o (items_of batch rest))) here.1
      ∙ ap (λ (k : ℕ). n ∷ numbers_from c k (items_of batch rest)) (sym (due_next front p x here.1))
      ∙ ap (λ (ns : List ℕ). n ∷ ns) later
      ∙ ap (λ (ps : List Place). due_after batch c ps ∷ map (number_of batch c journal) rest) (sym stands)

  -- the lines of a journal's run are those of its places
  pub lines_of_run : map answer_line (run_items c 0 (items_of batch journal)) ≡ map (λ (p : Place). answer_line_of (reply_of batch c journal p)) journal
  lines_of_run = lines_on [] journal refl

  -- and its numbers those that are due there
  pub numbers_of_run : numbers_from c 0 (items_of batch journal) ≡ map (number_of batch c journal) journal
  numbers_of_run = numbers_on [] journal refl
