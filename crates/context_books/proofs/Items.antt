-- An opening, one item more.
use Rattle.std.proofs.Common.{◌≡◌, ◌<◌, ◌≤◌, ◌+◌, ℕ, List, [], ◌∷◌, ◌++◌, length, take, map, get_or, Some, sym, ap, ◌∙◌, subst, arith}
use Rattle.std.specs.Prelude.{slice_get, sum_by, option_map}
use Rattle.std.proofs.lemmas.List.{length-map, length-take, map-append}
use Rattle.std.proofs.lemmas.List.Sums.{sum_by_more}
use Rattle.std.proofs.lemmas.Option.{slice_get-map, slice_get-get_or, get_or_from_slice_get}
use Rattle.call_places.specs.declared.spans.Item.{Item as Spans}
use Rattle.call_places.specs.declared.entries.Step.{Step}
use Rattle.call_places.specs.Spans.{span_bytes}
use Rattle.call_places.specs.Messages.{SealedMessage, sealed_message, sealed_messages}
use Rattle.hpke_context.specs.Answers.{Item, Unseal, Cipher, answer, run, due}
use Rattle.context_books.specs.Entries.{step_for, steps_from, number_after}
use Rattle.context_books.proofs.EntryNumbers.{length-steps_from}
use Rattle.context_books.specs.Openings.{unseals}
use Rattle.batch_plans.specs.declared.replies.Reply.{Reply}
use Rattle.batch_plans.specs.Progress.{Progress, with_reply}
use Rattle.batch_plans.specs.Room.{opened_room}
use Rattle.context_books.specs.Runs.{answer_line}
use Rattle.context_books.specs.Writing.{PutsReplies, WritesReply}
use Rattle.context_books.proofs.Writing.{puts_one, puts_more}
use Rattle.context_books.proofs.Steps.{length-run, run_more, step_at, number_more}

-- what the spans of an item ask
abbrev pub asked : List ℕ → Spans → Item
asked pool item = Unseal (span_bytes pool item.aad) (span_bytes pool item.text)

pub length-unseals : (pool : List ℕ) (items : List Spans)
    → length (unseals pool items) ≡ length items
length-unseals pool items =
    length-map (sealed_messages pool items) (λ (x : SealedMessage). Unseal x.aad x.ct)
    ∙ length-map items (sealed_message pool)

-- an opening has a line for each item
pub one_line_each : (c : Cipher) (first : ℕ) (pool : List ℕ) (items : List Spans)
    → length (map answer_line (run c first (unseals pool items))) ≡ length items
one_line_each c first pool items =
    length-map (run c first (unseals pool items)) answer_line
    ∙ length-run c first (unseals pool items) ∙ length-unseals pool items

item_at : (pool : List ℕ) (items : List Spans) (i : ℕ) (d : Spans) → i < length items
    → slice_get (unseals pool items) i ≡ Some (asked pool (get_or items i d))
item_at pool items i d low =
    slice_get-map (λ (x : SealedMessage). Unseal x.aad x.ct) (sealed_messages pool items) i
    ∙ ap (option_map (λ (x : SealedMessage). Unseal x.aad x.ct))
    (slice_get-map (sealed_message pool) items i
    ∙ ap (option_map (sealed_message pool)) (slice_get-get_or items i d low))

module _ (c : Cipher) (pool : List ℕ) (items : List Spans) (first : ℕ) (steps : List Step)
    (is : steps ≡ steps_from c first (unseals pool items)) where
  abbrev due_before : ℕ → ℕ
  due_before i = due c first (take i (unseals pool items))

  -- each item has a step
  pub step_within : (i : ℕ) → i < length items → i < length steps
  step_within i low =
      omega (
        arith,
        ap length is,
        length-steps_from c first
            (unseals pool items),
        length-unseals pool items,
      )

  -- there are replies to come
  pub some_left : (start now : Progress) (size i : ℕ)
      → PutsReplies start now size (map answer_line (run c first (take i (unseals pool items))))
      → i < length items → length items ≤ start.left → 0 < now.left
  some_left start now size i t low enough =
      let answers = run c first (take i (unseals pool items)) in
      let count : length (map answer_line answers) ≡ length (take i (unseals pool items)) =
      length-map answers answer_line ∙ length-run c first (take i (unseals pool items)) in
      omega (arith, t.left, count, length-take i (unseals pool items), length-unseals pool items)

  module _ (i : ℕ) (d : Spans) (none : Step) (low : i < length items) (n : ℕ)
      (n_is : n ≡ due_before i) where
    abbrev item : Spans
    item = get_or items i d

    step_is_at : get_or steps i none ≡ step_for (asked pool item)
        (answer c (due_before i) (asked pool item))
    step_is_at =
        ap (λ (all : List Step). get_or all i none) is
        ∙ get_or_from_slice_get (steps_from c first (unseals pool items)) i _ none
        (step_at c first (unseals pool items) i (asked pool item) (item_at pool items i d low))

    pub step_is : get_or steps i none ≡ step_for (asked pool item) (answer c n (asked pool item))
    step_is = step_is_at
        ∙ ap (λ k. step_for (asked pool item) (answer c k (asked pool item))) (sym n_is)

    -- its answer is written and put, and the number goes on
    pub one_more : (start now mid new : Progress) (reply : Reply) (next : ℕ)
        → PutsReplies start now (sum_by opened_room (take i items))
        (map answer_line (run c first (take i (unseals pool items))))
        → WritesReply now mid (opened_room item) reply (answer_line (answer c n (asked pool item)))
        → new ≡ with_reply mid reply → 0 < mid.left → next ≡ number_after n (get_or steps i none)
        → PutsReplies start new (sum_by opened_room (take (i + 1) items))
        (map answer_line (run c first (take (i + 1) (unseals pool items))))
        × (next ≡ due_before (i + 1))
    one_more start now mid new reply next before written new_is some next_is =
        let xs = unseals pool items in
        let at = item_at pool items i d low in
        let room : sum_by opened_room (take i items) + opened_room item ≡ sum_by opened_room
        (take (i + 1) items) = sym (sum_by_more opened_room items i d low) in
        let lines : map answer_line (run c first (take i xs)) ++ answer_line
        (answer c n (asked pool item)) ∷ [] ≡ map answer_line (run c first (take (i + 1) xs)) =
        ap (λ k. map answer_line (run c first (take i xs)) ++ answer_line
        (answer c k (asked pool item)) ∷ []) n_is
        ∙ sym (map-append answer_line (run c first (take i xs))
        (answer c (due_before i) (asked pool item) ∷ []))
        ∙ ap (map answer_line) (sym (run_more c first xs i (asked pool item) at)) in
        let both = puts_more start now new (sum_by opened_room (take i items)) (opened_room item)
        (map answer_line (run c first (take i xs)))
        (answer_line (answer c n (asked pool item)) ∷ []) before
        (puts_one now mid new (opened_room item) reply _ written new_is some) in (
          subst (λ s. PutsReplies start new s (map answer_line (run c first (take (i + 1) xs))))
              room (subst
              (λ ls. PutsReplies start new (sum_by opened_room (take i items) + opened_room item)
              ls) lines both),
          next_is ∙ ap (λ k. number_after k (get_or steps i none)) n_is
              ∙ number_more c first xs i (asked pool item) (get_or steps i none) at step_is_at,
        )
