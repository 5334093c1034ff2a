-- From what each lane shows of one context, and its closing, to its whole book.
use Rattle.std.proofs.Common.{◌≡◌, ℕ, ◌+◌, ◌<◌, Bool, true, false, cond, List, [], ◌∷◌, ◌++◌, length, map, sym, refl, ap, ◌∙◌, subst, arith, append_assoc, Some, inl, inr}
use Rattle.std.proofs.lemmas.List.{get_or_past, length-map}
use Rattle.std.proofs.lemmas.Bool.{cases_lt}
use Rattle.std.specs.Prelude.{slice_get, Contains}
use Rattle.call_places.specs.declared.entries.Place.{Place}
use Rattle.call_places.specs.declared.entries.Entry.{Entry}
use Rattle.call_places.specs.Entries.{seq_of, own, mark_of}
use Rattle.hpke_context.specs.Answers.{Cipher, Answer, run}
use Rattle.call_places.specs.Messages.{SealedMessage}
use Rattle.context_books.specs.Batches.{Batch, ToOpenAll, unseal, block, place, on, own_places, lane_of, items_of, item_or_none}
use Rattle.context_books.specs.Merging.{all_asked, lane_places}
use Rattle.context_books.specs.Legal.{StandTogether, Legal, is_same_place, reply_in, reply_of, due_after}
use Rattle.context_books.specs.Guesses.{Guessed, missed, missed_in}
use Rattle.context_books.specs.Histories.{mark, HaveConsecutiveStamps, entry_places}
use Rattle.context_books.specs.Entries.{entries_from, steps_from, numbers_from, number_after, FitsAt, Fits}
use Rattle.context_books.proofs.Members.{in_contains, contains_in}
use Rattle.context_books.specs.Lists.{In, EachFrom}
use Rattle.context_books.proofs.Places.{same_from, same_places}
use Rattle.context_books.proofs.Runs.{call_numbers}
use Rattle.context_books.proofs.EntryNumbers.{to_each, from_each, each_front, entry_places-append, number_next, due_fits, length-steps_from}
use Rattle.lane_workers.specs.Showing.{AnsweredAt, LaneShows, OpeningShows, Closes}
use Rattle.lane_workers.proofs.ShowingEntries.{own_places-entries, rest_none, each_none, each_longer, each_all, block_places, mark_added, mark_inside}
use Rattle.lane_workers.specs.OnTheWay.{OfLane, AllReplied}

-- ---- answers by place

replied_all : (batch : Batch) (context : ℕ) (c : Cipher) (replies : Place → Answer) (n : ℕ) (es : List Entry) → EachFrom (AnsweredAt batch context c replies) n es
    → AllReplied replies (entry_places es) (run c n (items_of batch (entry_places es)))
replied_all batch context c replies n [] t = tt
replied_all batch context c replies n (e ∷ es) t =
    let here = t.0 in
    subst (λ xs. AllReplied replies (e.place ∷ entry_places es) (run c n xs)) (sym (ap (λ o. item_or_none o (items_of batch (entry_places es))) here.of_place)) (
      here.reply,
      subst (λ k. AllReplied replies (entry_places es) (run c k (items_of batch (entry_places es)))) (number_next c n here.item e.step here.step)
          (replied_all batch context c replies (number_after n e.step) es t.1),
    )

reply_is : (replies : Place → Answer) (ps : List Place) (answers : List Answer) (p : Place) → AllReplied replies ps answers → In p ps → reply_in ps answers p ≡ Some (replies p)
reply_is replies [] answers p t i = absurd i
reply_is replies (q ∷ qs) [] p t i = absurd t
reply_is replies (q ∷ qs) (a ∷ answers) p t i = step (is_same_place q p) refl i (reply_is replies qs answers p t.1)
  where
    step : (b : Bool) → is_same_place q p ≡ b → In p (q ∷ qs) → (In p qs → reply_in qs answers p ≡ Some (replies p)) → cond b (Some a) (reply_in qs answers p) ≡ Some (replies p)
    step true e has later = ap Some (sym t.0 ∙ ap replies (same_places q p e))
    step false e has later = elim has [
      | inl is ↦ absurd (let f : true ≡ false = sym (same_from q p is) ∙ e in cc)
      | inr more ↦ later more
    ]

fits_from : (batch : Batch) (context : ℕ) (c : Cipher) (replies : Place → Answer) (n : ℕ) (es : List Entry) → EachFrom (AnsweredAt batch context c replies) n es → EachFrom (FitsAt batch context c) n es
fits_from batch context c replies n [] t = tt
fits_from batch context c replies n (e ∷ es) t = ((t.0.item, t.0.of_place, t.0.step), fits_from batch context c replies (number_after n e.step) es t.1)

module _ (batch : Batch) (context : ℕ) (c : Cipher) (replies : Place → Answer) (seen : ℕ → List Entry) (entries : List Entry)
    (closes : Closes (length batch) seen entries) (shows : (l : ℕ) → l < length batch → LaneShows batch context c l replies (seen l)) where
  -- ---- all entries

  lane_answered : (l : ℕ) → EachFrom (OfLane l (AnsweredAt batch context c replies)) 0 entries
  lane_answered l = elim (cases_lt l (length batch)) [
    | inl low ↦ (let b = closes.begins l low in subst (EachFrom (OfLane l (AnsweredAt batch context c replies)) 0) b.1
        (each_longer (AnsweredAt batch context c replies) l 0 (seen l) b.0 (rest_none l (seen l) b.0 (closes.whole l low ∙ ap (own l) (sym b.1)))
        (to_each (OfLane l (AnsweredAt batch context c replies)) (seen l) (shows l low).answered)))
    | inr high ↦ each_none (AnsweredAt batch context c replies) l 0 entries (closes.others l high)
  ]

  all_answered : EachFrom (AnsweredAt batch context c replies) 0 entries
  all_answered = each_all (AnsweredAt batch context c replies) 0 entries lane_answered

  each_fits : EachFrom (FitsAt batch context c) 0 entries
  each_fits = fits_from batch context c replies 0 entries all_answered

  pub all_fit : Fits batch context c entries
  all_fit = from_each (FitsAt batch context c) entries each_fits

  pub lanes_are : (l : ℕ) → own_places l (entry_places entries) ≡ lane_places context l (lane_of batch l)
  lanes_are l = elim (cases_lt l (length batch)) [
    | inl low ↦ own_places-entries l entries ∙ ap entry_places (sym (closes.whole l low)) ∙ (shows l low).places
    | inr high ↦ own_places-entries l entries ∙ ap entry_places (closes.others l high) ∙ sym (ap (λ asks. on context (all_asked l 0 asks)) (get_or_past batch l [] high))
  ]

  pub replies_are : (p : Place) → Contains (entry_places entries) p → reply_of batch c (entry_places entries) p ≡ Some (replies p)
  replies_are p has = reply_is replies (entry_places entries) (run c 0 (items_of batch (entry_places entries))) p (replied_all batch context c replies 0 entries all_answered) (in_contains (entry_places entries) p has)

  -- ---- one opening of several messages

  module _ (l call : ℕ) (messages : List SealedMessage) (guess misses : ℕ) (low : l < length batch) (t : OpeningShows c (seen l) l call (map unseal messages) guess misses) where
    abbrev added : List Entry
    added = entries_from l call 0 t.first_stamp (steps_from c t.due (map unseal messages))

    abbrev ahead : List Entry
    ahead = t.front ++ t.others

    abbrev tail : List Entry
    tail = t.after ++ (closes.begins l low).0

    whole : entries ≡ ahead ++ (added ++ tail)
    whole =
        let b = closes.begins l low in
        sym b.1 ∙ ap (λ m. m ++ b.0) (t.stands ∙ sym (append_assoc t.front t.others (added ++ t.after)))
        ∙ append_assoc ahead (added ++ t.after) b.0 ∙ ap (λ m. ahead ++ m) (append_assoc added t.after b.0)

    size : length (map unseal messages) ≡ length messages
    size = length-map messages unseal

    added_places : entry_places added ≡ block l call 0 (length messages)
    added_places = block_places c t.due l call t.first_stamp (map unseal messages) ∙ ap (block l call 0) size

    places : entry_places entries ≡ entry_places ahead ++ (block l call 0 (length messages) ++ entry_places tail)
    places =
        ap entry_places whole ∙ entry_places-append ahead (added ++ tail)
        ∙ ap (λ m. entry_places ahead ++ m) (entry_places-append added tail ∙ ap (λ m. m ++ entry_places tail) added_places)

    pub opening_stands : StandTogether (entry_places entries) (block l call 0 (length messages))
    opening_stands = (entry_places ahead, entry_places tail, places)

    pub opening_stamped : HaveConsecutiveStamps (map mark_of entries) l call (length messages)
    opening_stamped = (
      t.first_stamp,
      λ item few.
          let steps = steps_from c t.due (map unseal messages) in
          let count : length steps ≡ length messages = length-steps_from c t.due (map unseal messages) ∙ size in
          contains_in (map mark_of entries) (mark (place l call item) (t.first_stamp + item))
          (subst (λ es. In (mark (place l call item) (t.first_stamp + item)) (map mark_of es)) (sym whole)
          (mark_inside (mark (place l call item) (t.first_stamp + item)) ahead added tail
          (subst (λ k. In (mark (place l call k) (t.first_stamp + item)) (map mark_of added)) (let z : 0 + item ≡ item = omega arith in z) (mark_added l call 0 t.first_stamp steps item (omega arith))))),
    )

    front_fits : (xs ys : List Entry) → entries ≡ xs ++ ys → due_after batch c (entry_places xs) ≡ seq_of xs
    front_fits xs ys e = due_fits batch context c xs (each_front (FitsAt batch context c) 0 xs ys (subst (EachFrom (FitsAt batch context c) 0) e each_fits))

    pub opening_guessed : Guessed batch c (entry_places entries) l call (length messages) guess
    opening_guessed = record {
      front = entry_places t.front;
      others = entry_places t.others;
      after = entry_places tail;
      stands = places ∙ ap (λ m. m ++ (block l call 0 (length messages) ++ entry_places tail)) (entry_places-append t.front t.others)
          ∙ append_assoc (entry_places t.front) (entry_places t.others) (block l call 0 (length messages) ++ entry_places tail);
      of_others = own_places-entries l t.others ∙ ap entry_places t.of_others;
      number = front_fits t.front (t.others ++ (added ++ tail)) (whole ∙ append_assoc t.front t.others (added ++ tail)) ∙ sym t.guessed;
    }

    pub opening_missed : Legal batch context (entry_places entries) → slice_get (lane_of batch l) call ≡ Some (ToOpenAll context messages)
        → missed_in batch c (entry_places entries) l call (length messages) guess ≡ misses
    opening_missed legal is =
        let numbers = call_numbers batch c (entry_places entries) l call (ToOpenAll context messages) (entry_places ahead) (entry_places tail) legal.once is
        (places ∙ ap (λ n. entry_places ahead ++ (block l call 0 n ++ entry_places tail)) (sym size)) in
        let due : due_after batch c (entry_places ahead) ≡ t.due = front_fits ahead (added ++ tail) whole ∙ sym t.due_is in
        ap (λ n. missed_in batch c (entry_places entries) l call n guess) (sym size)
        ∙ ap (missed guess 0) (numbers ∙ ap (λ n. numbers_from c n (map unseal messages)) due) ∙ sym t.missed
