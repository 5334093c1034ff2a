-- Journals of a context that is asked to seal T alone.
use Rattle.std.proofs.Common.{◌≡◌, ◌≢◌, ℕ, zero, suc, ◌+◌, ◌<◌, ◌≤◌, List, [], ◌∷◌, ◌++◌, length, take, drop, Option, Some, None, inl, inr, refl, sym, ap, subst, ◌∙◌, length-append, arith}
use Rattle.std.specs.Prelude.{slice_get, sum_by}
use Rattle.std.specs.List.{AllByRecursion, AllPairs}
use Rattle.call_places.specs.declared.entries.Place.{Place}
use Rattle.hpke_context.specs.Answers.{Item, Seal, Cipher, Sealed_at, answer, next, due}
use Rattle.context_books.specs.Batches.{Ask, ToSeal, Batch, lane_of, item_of, item_in_call, item_or_none, items_of, IsServed, place, on, own_places}
use Rattle.context_books.specs.Merging.{all_asked}
use Rattle.context_books.specs.Legal.{Legal, reply_of, due_after, before}
use Rattle.context_books.proofs.Members.{In-left, In-right, contains_in, in_contains, split_at, got}
use Rattle.context_books.specs.Lists.{In}
use Rattle.context_books.proofs.Places.{same_place, not_in_front, before_split}
use Rattle.context_books.proofs.Legals.{lane_is}
use Rattle.context_books.proofs.Runs.{item_here}
use Rattle.context_books.proofs.Replies.{reply_at}
use Rattle.context_books.proofs.OneLane.{parted, few_taken}
use Rattle.std.proofs.lemmas.Option.{slice_get_within}
use Rattle.std.proofs.lemmas.Bool.{cases_lt}
use Rattle.context_books.proofs.Steps.{seal_below}
use Rattle.context_books.proofs.Sums.{count_parts, sum_numbers}
use Rattle.demo_runs.specs.Demo.{sealed_text}

-- what each call of such a lane asks
abbrev pub the_ask : Ask
the_ask = ToSeal 0 [] sealed_text

abbrev pub the_item : Item
the_item = Seal [] sealed_text

abbrev pub AllAsk : List Ask → Type 0
AllAsk asks = AllByRecursion (λ (a : Ask). a ≡ the_ask) asks

ask_at : (asks : List Ask) (i : ℕ) (a : Ask) → AllAsk asks → slice_get asks i ≡ Some a → a ≡ the_ask
ask_at [] i a all at = absurd (let none : None ≡ Some a = at in cc)
ask_at (x ∷ asks) zero a all at = let is : x ≡ a = (let f : Some x ≡ Some a = at in cc) in sym is ∙ all.0
ask_at (x ∷ asks) (suc i) a all at = ask_at asks i a all.1 at

-- ---- the items of places

record OfSeal (o : Option Ask) (i : ℕ) (x : ℕ × Item) : Type 0 where
  is : x ≡ (0, the_item)
  first : i ≡ 0
  asked : o ≡ Some the_ask

of_seal : (i : ℕ) (x : ℕ × Item) → item_in_call (Some the_ask) i ≡ Some x → OfSeal (Some the_ask) i x
of_seal zero x e = record { is = (let f : Some (0, the_item) ≡ Some x = e in let g : (0, the_item) ≡ x = cc in sym g); first = refl; asked = refl }
of_seal (suc i) x e = absurd (let none : None ≡ Some x = e in cc)

seal_item : (o : Option Ask) (i : ℕ) (x : ℕ × Item) → ((a : Ask) → o ≡ Some a → a ≡ the_ask)
    → item_in_call o i ≡ Some x → OfSeal o i x
seal_item None i x each e = absurd (let none : None ≡ Some x = e in cc)
seal_item (Some a) i x each e =
    let is : a ≡ the_ask = each a refl in
    subst (λ (b : Ask). OfSeal (Some b) i x) (sym is)
    (of_seal i x (subst (λ (b : Ask). item_in_call (Some b) i ≡ Some x) is e))

abbrev copies : ℕ → List Item
copies zero = []
copies (suc n) = the_item ∷ copies n

due_copies : (c : Cipher) (n k : ℕ) → n + k ≤ c.limit → due c n (copies k) ≡ n + k
due_copies c n zero few = omega arith
due_copies c n (suc k) few =
    ap (λ a. due c (next n a) (copies k)) (seal_below c n [] sealed_text (omega arith))
    ∙ due_copies c (n + 1) k (omega arith)
    ∙ (let e : (n + 1) + k ≡ n + suc k = omega arith in e)

-- ---- the places of a lane

length-on : (l k : ℕ) (asks : List Ask) → AllAsk asks → length (on 0 (all_asked l k asks)) ≡ length asks
length-on l k [] all = refl
length-on l k (a ∷ asks) all =
    subst (λ (b : Ask). length (on 0 (all_asked l k (b ∷ asks))) ≡ suc (length asks)) (sym all.0)
    (ap suc (length-on l (k + 1) asks all.1))

module _ (b : Batch) (all : (l : ℕ) → AllAsk (lane_of b l)) (journal : List Place) (legal : Legal b 0 journal)
    (c : Cipher) where
  each_ask : (l i : ℕ) (a : Ask) → slice_get (lane_of b l) i ≡ Some a → a ≡ the_ask
  each_ask l i a at = ask_at (lane_of b l) i a (all l) at

  served_here : (p : Place) → In p journal → IsServed b 0 p
  served_here p here = (legal.served p).0 (contains_in journal p here)

  seal_here : (p : Place) (here : In p journal) → OfSeal (slice_get (lane_of b p.lane) p.call) p.item (0, (served_here p here).0)
  seal_here p here =
      let s = served_here p here in
      seal_item (slice_get (lane_of b p.lane) p.call) p.item (0, s.0) (each_ask p.lane p.call) s.1

  item_is : (p : Place) → In p journal → item_of b p ≡ Some (0, the_item)
  item_is p here = (served_here p here).1 ∙ ap Some (seal_here p here).is

  items_are : (front rest : List Place) → journal ≡ front ++ rest → items_of b front ≡ copies (length front)
  items_are front rest parts = go front (λ p here. subst (In p) (sym parts) (In-left p front rest here))
    where
      go : (ps : List Place) → ((p : Place) → In p ps → In p journal) → items_of b ps ≡ copies (length ps)
      go [] within = refl
      go (p ∷ ps) within =
          ap (λ o. item_or_none o (items_of b ps)) (item_is p (within p (inl refl)))
          ∙ ap (λ (xs : List Item). the_item ∷ xs) (go ps (λ q here. within q (inr here)))

  -- the number of a place
  abbrev pub number_at : Place → ℕ
  number_at p = length (before p journal)

  apart : (front rest : List Place) (p : Place) → journal ≡ front ++ (p ∷ rest) → In p front → ⊥
  apart front rest p parts = not_in_front front rest p (subst (AllPairs (λ (a b : Place). a ≢ b)) parts legal.once)

  before_is : (front rest : List Place) (p : Place) → journal ≡ front ++ (p ∷ rest) → before p journal ≡ front
  before_is front rest p parts = ap (before p) parts ∙ before_split front rest p (apart front rest p parts)

  -- it is sealed at that number
  pub reply_is : (p : Place) → In p journal → length journal ≤ c.limit
      → reply_of b c journal p ≡ Some (Sealed_at (number_at p) (c.sealed (number_at p) [] sealed_text))
  reply_is p here few =
      let s = split_at p journal here in
      let front : List Place = s.0 in
      let size : length journal ≡ length front + suc (length s.1) = ap length s.2 ∙ length-append front (p ∷ s.1) in
      let n : ℕ = length front in
      let is : before p journal ≡ front = before_is front s.1 p s.2 in
      let number : number_at p ≡ n = ap length is in
      let due_is : due_after b c front ≡ n =
      ap (due c 0) (items_are front (p ∷ s.1) s.2) ∙ due_copies c 0 n (omega arith) ∙ (let e : 0 + n ≡ n = omega arith in e) in
      ap (λ ps. reply_of b c ps p) s.2
      ∙ reply_at b 0 c front s.1 p the_item (λ q there. served_here q (subst (In q) (sym s.2) (In-left q front (p ∷ s.1) there)))
      (apart front s.1 p s.2) (item_is p here)
      ∙ ap (λ (k : ℕ). Some (answer c k the_item)) (due_is ∙ sym number)
      ∙ ap Some (seal_below c (number_at p) [] sealed_text (omega arith))

  pub number_low : (p : Place) → In p journal → number_at p < length journal
  number_low p here =
      let s = split_at p journal here in
      let size = ap length s.2 ∙ length-append s.0 (p ∷ s.1) in
      let number : number_at p ≡ length s.0 = ap length (before_is s.0 s.1 p s.2) in
      omega arith

  -- each call of a lane has its place
  pub place_in : (l i : ℕ) → i < length (lane_of b l) → In (place l i 0) journal
  place_in l i low =
      let a = got (lane_of b l) i low in
      let is : slice_get (lane_of b l) i ≡ Some the_ask = a.1 ∙ ap Some (each_ask l i a.0 a.1) in
      in_contains journal (place l i 0)
      ((legal.served (place l i 0)).1 (the_item, item_here b l i 0 the_ask the_item is refl))

  -- each number has a place, the call of some lane
  pub record HasPlace (n : ℕ) : Type 0 where
    pub lane : ℕ
    pub call : ℕ
    pub low : call < length (lane_of b lane)
    pub number : number_at (place lane call 0) ≡ n

  pub number_has_place : (n : ℕ) → n < length journal → HasPlace n
  number_has_place n low =
      let g = got journal n low in
      let p : Place = g.0 in
      let parts = parted journal n p g.1 in
      let here : In p journal = subst (In p) (sym parts) (In-right p (take n journal) (p ∷ drop (n + 1) journal) (inl refl)) in
      let s = seal_here p here in
      let is : p ≡ place p.lane p.call 0 = same_place p (place p.lane p.call 0) refl refl s.first in
      record {
        lane = p.lane;
        call = p.call;
        low = slice_get_within (lane_of b p.lane) p.call the_ask s.asked;
        number = ap number_at (sym is) ∙ ap length (before_is (take n journal) (drop (n + 1) journal) p parts)
            ∙ few_taken journal n p g.1;
      }

  lane_there : (p : Place) → In p journal → p.lane < length b
  lane_there p here =
      elim (cases_lt p.lane (length b)) [
        | inl low ↦ low
        | inr high ↦ absurd (none_past b p.lane p.call (seal_here p here).asked high)
      ]
    where
      none_past : (lanes : Batch) (l i : ℕ) → slice_get (lane_of lanes l) i ≡ Some the_ask → length lanes ≤ l → ⊥
      none_past [] l i at high = (let none : None ≡ Some the_ask = at in cc)
      none_past (x ∷ lanes) zero i at high = omega arith
      none_past (x ∷ lanes) (suc l) i at high = none_past lanes l i at (omega arith)

  -- the journal has as many places as there are calls
  pub length-journal : length journal ≡ sum_by (λ (asks : List Ask). length asks) b
  length-journal =
      let each : (l : ℕ) → length (own_places l journal) ≡ length (lane_of b l) = λ l.
      ap length (lane_is b 0 journal legal l) ∙ length-on l 0 (lane_of b l) (all l) in
      sym (count_parts (λ (p : Place). p.lane) (length b) journal lane_there)
      ∙ sum_numbers (λ l. length (own_places l journal)) (λ (asks : List Ask). length asks) [] 0 b
      (λ i low. each (0 + i) ∙ ap (λ (l : ℕ). length (lane_of b l)) (let e : 0 + i ≡ i = omega arith in e))
