-- One more item of a call that is settled.
use Rattle.std.proofs.Common.{◌≡◌, ℕ, zero, suc, ◌+◌, ◌<◌, ◌≤◌, ◌&&◌, ◌↔◌, Bool, true, false, List, [], ◌∷◌, ◌++◌, length, take, drop, sym, refl, ap, ◌∙◌, subst, arith, append_assoc, le-leb, leb-true, Option, Some, None, min, IsTrue, IsNone, if◌then◌else◌}
use Rattle.std.specs.Prelude.{slice_get, slice_index_or, slice_set, nat_le, nat_lt, is_some}
use Rattle.std.proofs.lemmas.List.{take_more_set, length-take-le}
use mathlib.Core.Logic.{dite}
use native.Mathlib.Decide.{dec_le}
use Rattle.call_places.specs.declared.entries.Entry.{Entry}
use Rattle.call_places.specs.declared.entries.Step.{Step}
use Rattle.call_places.specs.declared.entries.Step.TheVariants.{Opened, Failed, OpenLimit}
use Rattle.call_places.specs.declared.spans.Item as spans
use Rattle.hpke_context.specs.Answers.{Item, Unseal, Cipher, Opened_at, Failed_at, At_limit, answer, next}
use Rattle.context_books.specs.Batches.{place}
use Rattle.context_books.specs.Entries.{entry, entries_from, step_for, steps_from, numbers_from}
use Rattle.context_books.specs.Guesses.{is_in_window, missed}
use Rattle.hpke_aead.specs.declared.keys.AeadKey.{AeadKey}
use Rattle.hpke_aead.specs.Aeads.{Holds}
use Rattle.call_places.specs.Messages.{SealedMessage, sealed_message, sealed_messages}
use Rattle.speculative_open.specs.Tables.{IsChecked}
use Rattle.context_books.specs.Books.{opened_at}
use Rattle.context_books.specs.Openings.{unseals}
use Rattle.context_books.proofs.Blocks.{entries-push}

-- ---- one item

-- a verdict on the same bytes
pub holds_moved : {key key' : AeadKey} {nonce nonce' aad aad' ct ct' : List ℕ} {b : Bool} → key ≡ key' → nonce ≡ nonce' → aad ≡ aad' → ct ≡ ct'
    → IsTrue b ↔ Holds key nonce aad ct → IsTrue b ↔ Holds key' nonce' aad' ct'
holds_moved {b = b} e f g h told = subst (λ (T : Type 0). IsTrue b ↔ T) (λ i. Holds (e i) (f i) (g i) (h i)) told

-- the step of an open is that of the sequential context's answer
pub opened_for : (c : Cipher) (n : ℕ) (aad ct : List ℕ) (holds : Bool) → c.holds n aad ct ≡ holds
    → opened_at c.limit n holds ≡ step_for (Unseal aad ct) (answer c n (Unseal aad ct))
opened_for c n aad ct holds is =
    ap (opened_at c.limit n) (sym is) ∙ step (c.holds n aad ct) (nat_lt n c.limit)
  where
    step : (b d : Bool) → (if b then (if d then Opened else OpenLimit) else Failed)
        ≡ step_for (Unseal aad ct) (if b then (if d then Opened_at n (c.clear n aad ct) else At_limit) else Failed_at n)
    step true true = refl
    step true false = refl
    step false d = refl

-- the table tells a verdict where the window has the number
pub told_in_window : (o : Option Bool) (guess limit i n : ℕ) → n ≤ limit → (IsNone o ↔ ¬ IsChecked guess limit i n)
    → is_some o ≡ is_in_window guess i n
told_in_window o guess limit i n below told = dite (dec_le n (guess + i))
    (λ (low : n ≤ guess + i). dite (dec_le (guess + i) (n + min i 3))
    (λ (high : guess + i ≤ n + min i 3).
    some_told o (told.0) ((low, high, below)) ∙ sym (ap (λ b. b && nat_le (guess + i) (n + min i 3)) (le-leb n (guess + i) low) ∙ le-leb (guess + i) (n + min i 3) high))
    (λ (out : ¬ (guess + i ≤ n + min i 3)). told.1 (λ c. out c.1) ∙ sym (not_both (nat_le n (guess + i)) (nat_le (guess + i) (n + min i 3)) (λ t. out (leb-true (guess + i) (n + min i 3) t.1)))))
    (λ (out : ¬ (n ≤ guess + i)). told.1 (λ c. out c.0) ∙ sym (not_both (nat_le n (guess + i)) (nat_le (guess + i) (n + min i 3)) (λ t. out (leb-true n (guess + i) t.0))))
  where
    some_told : (p : Option Bool) → (IsNone p → ¬ IsChecked guess limit i n) → IsChecked guess limit i n → is_some p ≡ true
    some_told None h c = absurd (h refl c)
    some_told (Some v) h c = refl

    not_both : (x y : Bool) → ¬ ((x ≡ true) × (y ≡ true)) → (x && y) ≡ false
    not_both true true h = absurd (h (refl, refl))
    not_both true false h = refl
    not_both false y h = refl

-- the item of this number, and what it asks
pub item_at : (pool : List ℕ) (items : List spans.Item) (i : ℕ) (d : spans.Item) → i < length items
    → slice_get (sealed_messages pool items) i ≡ Some (sealed_message pool (slice_index_or items i d))
item_at pool [] i d h = absurd (omega arith)
item_at pool (x ∷ items) zero d h = refl
item_at pool (x ∷ items) (suc i) d h = item_at pool items i d (omega arith)

pub asked_at : (pool : List ℕ) (items : List spans.Item) (i : ℕ) (d : spans.Item) → i < length items
    → slice_get (unseals pool items) i ≡ Some (let x : SealedMessage = sealed_message pool (slice_index_or items i d) in Unseal x.aad x.ct)
asked_at pool [] i d h = absurd (omega arith)
asked_at pool (x ∷ items) zero d h = refl
asked_at pool (x ∷ items) (suc i) d h = asked_at pool items i d (omega arith)

-- ---- what is left of the call

drop_item : (items : List Item) (i : ℕ) (x : Item) → slice_get items i ≡ Some x → drop i items ≡ x ∷ drop (i + 1) items
drop_item [] i x e = absurd (let f : None ≡ Some x = e in cc)
drop_item (y ∷ items) zero x e = let f : y ≡ x = (let g : Some y ≡ Some x = e in cc) in ap (λ z. z ∷ items) f
drop_item (y ∷ items) (suc i) x e = drop_item items i x e ∙ ap (λ k. x ∷ drop k (y ∷ items)) (let s : suc (i + 1) ≡ suc i + 1 = omega arith in s)

pub steps_more : (c : Cipher) (all : List Item) (whole ss : List Step) (n n' i : ℕ) (x : Item) (s : Step) → slice_get all i ≡ Some x → i < length ss
    → s ≡ step_for x (answer c n x) → n' ≡ next n (answer c n x)
    → whole ≡ take i ss ++ steps_from c n (drop i all) → whole ≡ take (i + 1) (slice_set ss i s) ++ steps_from c n' (drop (i + 1) all)
steps_more c all whole ss n n' i x s at within step next_is e =
    e ∙ ap (λ d. take i ss ++ steps_from c n d) (drop_item all i x at)
    ∙ (λ k. take i ss ++ (sym step k ∷ steps_from c (sym next_is k) (drop (i + 1) all)))
    ∙ sym (append_assoc (take i ss) (s ∷ []) (steps_from c n' (drop (i + 1) all)))
    ∙ ap (λ l. l ++ steps_from c n' (drop (i + 1) all)) (sym (take_more_set ss i s within))

pub missed_more : (c : Cipher) (all : List Item) (guess whole m m' n n' i : ℕ) (x : Item) → slice_get all i ≡ Some x → n' ≡ next n (answer c n x)
    → m' ≡ m + (if is_in_window guess i n then 0 else 1) → whole ≡ m + missed guess i (numbers_from c n (drop i all))
    → whole ≡ m' + missed guess (i + 1) (numbers_from c n' (drop (i + 1) all))
missed_more c all guess whole m m' n n' i x at next_is more e =
    let a : missed guess i (numbers_from c n (drop i all)) ≡ (if is_in_window guess i n then 0 else 1) + missed guess (i + 1) (numbers_from c n' (drop (i + 1) all)) =
    ap (λ l. missed guess i (numbers_from c n l)) (drop_item all i x at) ∙ ap (λ k. (if is_in_window guess i n then 0 else 1) + missed guess (i + 1) (numbers_from c k (drop (i + 1) all))) (sym next_is) in
    omega arith

pub entries_more : (lane call i first : ℕ) (old es : List Entry) (ss : List Step) (s : Step) → i < length ss → es ≡ old ++ entries_from lane call 0 first (take i ss)
    → es ++ entry (place lane call i) (first + i) s ∷ [] ≡ old ++ entries_from lane call 0 first (take (i + 1) (slice_set ss i s))
entries_more lane call i first old es ss s within e =
    let size : length (take i ss) ≡ i = length-take-le i ss (omega arith) in
    let item : i ≡ 0 + length (take i ss) = omega arith in
    let stamp : first + i ≡ first + length (take i ss) = omega arith in
    (λ k. e k ++ entry (place lane call (item k)) (stamp k) s ∷ [])
    ∙ append_assoc old (entries_from lane call 0 first (take i ss)) (entry (place lane call (0 + length (take i ss))) (first + length (take i ss)) s ∷ [])
    ∙ ap (λ l. old ++ l) (sym (entries-push lane call 0 first (take i ss) s) ∙ ap (entries_from lane call 0 first) (sym (take_more_set ss i s within)))
