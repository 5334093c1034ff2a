-- A context whose places are all of one lane has one journal, and each place there one reply.
use Rattle.std.proofs.Common.{◌≡◌, ℕ, List, [], ◌∷◌, Some, sym, refl, ap, ◌∙◌, inl, inr}
use Rattle.std.specs.Prelude.{◌↔◌}
use Rattle.call_places.specs.declared.entries.Place.{Place}
use Rattle.call_places.specs.Orders.{IsBefore}
use Rattle.hpke_context.specs.Answers.{Cipher, Item, run}
use Rattle.context_books.specs.Batches.{Batch, IsServed, item_of, items_of, item_or_none}
use Rattle.context_books.specs.Legal.{Legal, IsInLaneOrder, reply_in, reply_of}
use Rattle.context_books.specs.Lists.{In}
use Rattle.context_books.specs.Sharing.{IsOfOneLane}
use Rattle.context_books.proofs.Members.{RisesBy, contains_in, in_contains, contains_at, pairs_at, rises_from, one_list}
use Rattle.context_books.proofs.Places.{not_both}

rises : (batch : Batch) (c : ℕ) (journal : List Place) → IsOfOneLane batch c → Legal batch c journal
    → RisesBy IsBefore journal
rises batch c journal one t =
    rises_from IsBefore journal
    (λ i j p q low at_p at_q. pairs_at IsInLaneOrder journal t.in_order i j p q low at_p at_q
    (one p q ((t.served p).0 (contains_at journal i p at_p))
    ((t.served q).0 (contains_at journal j q at_q))))

-- two batches ask this context for the same items, each at the same place
abbrev pub AskTheSame : Batch → Batch → ℕ → Type 0
AskTheSame batch other c =
    (p : Place) (x : Item) → item_of batch p ≡ Some (c, x) ↔ item_of other p ≡ Some (c, x)

pub same_batch : (batch : Batch) (c : ℕ) → AskTheSame batch batch c
same_batch batch c p x = (λ is. is, λ is. is)

module _ (batch other : Batch) (c : ℕ) (same : AskTheSame batch other c)
    (one : IsOfOneLane batch c) where
  to_other : (p : Place) → IsServed batch c p → IsServed other c p
  to_other p t = (t.0, (same p t.0).0 t.1)

  from_other : (p : Place) → IsServed other c p → IsServed batch c p
  from_other p t = (t.0, (same p t.0).1 t.1)

  pub same_journal : (journal further : List Place) → Legal batch c journal
      → Legal other c further → journal ≡ further
  same_journal journal further t u =
      one_list IsBefore not_both journal further
      (rises batch c journal one t)
      (rises other c further (λ p q a b. one p q (from_other p a) (from_other q b)) u)
      (λ p i. in_contains further p
      ((u.served p).1 (to_other p ((t.served p).0 (contains_in journal p i)))))
      (λ p i. in_contains journal p
      ((t.served p).1 (from_other p ((u.served p).0 (contains_in further p i)))))

  same_items : (ps : List Place) → ((p : Place) → In p ps → IsServed batch c p)
      → items_of batch ps ≡ items_of other ps
  same_items [] all = refl
  same_items (p ∷ ps) all =
      let t = all p (inl refl) in
      (λ i. item_or_none ((t.1 ∙ sym ((same p t.0).0 t.1)) i)
      (same_items ps (λ q has. all q (inr has)) i))

  pub same_replies : (cipher : Cipher) (journal further : List Place) (p : Place)
      → Legal batch c journal → Legal other c further
      → reply_of batch cipher journal p ≡ reply_of other cipher further p
  same_replies cipher journal further p t u =
      ap (λ items. reply_in journal (run cipher 0 items) p)
      (same_items journal (λ q i. (t.served q).0 (contains_in journal q i)))
      ∙ ap (λ ps. reply_of other cipher ps p) (same_journal journal further t u)
