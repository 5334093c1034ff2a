-- The showing of two lanes on one context holds together.
use Rattle.std.proofs.Common.{◌≡◌, ℕ, zero, suc, ◌<◌, ◌≤◌, ◌==◌, Bool, true, false, cond, List, [], ◌∷◌, ◌++◌, map, sym, refl, ap, ◌∙◌, subst, arith, eqb-true, ne_eqb, Option, Some, None, inl, inr}
use Rattle.std.specs.Prelude.{slice_get}
use Rattle.std.proofs.lemmas.List.Sorted.{IsPermutation-refl}
use mathlib.Core.List.{IsPrefix}
use Rattle.call_places.specs.declared.entries.Place.{Place}
use Rattle.call_places.specs.declared.entries.Entry.{Entry}
use Rattle.call_places.specs.declared.entries.Step.TheVariants.{Opened}
use Rattle.call_places.specs.Entries.{own}
use Rattle.call_places.specs.Orders.{IsBefore}
use Rattle.hpke_context.specs.Answers.{Cipher}
use Rattle.call_places.specs.Messages.{SealedMessage}
use Rattle.context_books.specs.Batches.{Ask, Nothing, ToSeal, ToOpen, ToOpenAll, unseal, place, lane_of}
use Rattle.context_books.specs.Merging.{lane_places}
use Rattle.context_books.specs.Guesses.{guess_at}
use Rattle.context_books.specs.Entries.{entry}
use Rattle.context_books.specs.Rows.{toy, message, opening}
use Rattle.context_books.proofs.Lists.{on-spots}
use Rattle.context_books.proofs.Members.{in_contains, filter_in, none_in}
use Rattle.context_books.specs.Lists.{In}
use Rattle.context_books.proofs.Places.{not_before, not_both}
use Rattle.context_books.proofs.OneLane.{no_ask}
use Rattle.context_books.proofs.EntryNumbers.{from_each}
use Rattle.lane_workers.specs.Showing.{AnsweredAt, LaneShows, OpeningShows, StampsInOrder, LaneIsShown, Closes, AllShown, book}
use Rattle.lane_workers.specs.ShowingRows.{overtaken, all_entries, seen_by, reply_to, of_lane_0, shown}
use Rattle.lane_workers.specs.OnTheWay.{OfLane}

abbrev ciphers : ℕ → Cipher
ciphers context = toy

apart_10 : ◌≡◌ {A = ℕ} 1 0 → ⊥
apart_10 e = absurd (omega arith)

-- ---- what each lane shows of the contexts

lane_0_here : LaneShows overtaken 0 toy 0 reply_to all_entries
lane_0_here = record {
  places = refl;
  answered = from_each (OfLane 0 (AnsweredAt overtaken 0 toy reply_to)) all_entries (
    λ is. absurd (apart_10 is),
    (
      λ is. record { item = opening 1; of_place = refl; step = refl; reply = refl },
      (λ is. record { item = opening 2; of_place = refl; step = refl; reply = refl }, tt),
    ),
  );
}

lane_1_here : LaneShows overtaken 0 toy 1 reply_to (seen_by 1 0)
lane_1_here = record {
  places = refl;
  answered = from_each (OfLane 1 (AnsweredAt overtaken 0 toy reply_to)) (seen_by 1 0)
      (λ is. record { item = opening 0; of_place = refl; step = refl; reply = refl }, tt);
}

none_elsewhere : (context : ℕ) (ps : List Place) → [] ≡ cond (0 == suc context) ps []
none_elsewhere context ps = sym (ap (λ b. cond b ps []) (ne_eqb 0 (suc context) (λ e. absurd (omega arith))))

elsewhere : (context lane : ℕ) → [] ≡ lane_places (suc context) lane (lane_of overtaken lane) → LaneShows overtaken (suc context) toy lane reply_to []
elsewhere context lane none = record { places = none; answered = from_each (OfLane lane (AnsweredAt overtaken (suc context) toy reply_to)) [] tt }

lane_0_each : (context : ℕ) → LaneShows overtaken context toy 0 reply_to (seen_by 0 context)
lane_0_each zero = lane_0_here
lane_0_each (suc context) = elsewhere context 0
    (none_elsewhere context (place 0 0 0 ∷ place 0 0 1 ∷ []) ∙ sym (on-spots (suc context) 0 (place 0 0 0 ∷ place 0 0 1 ∷ [])))

lane_1_each : (context : ℕ) → LaneShows overtaken context toy 1 reply_to (seen_by 1 context)
lane_1_each zero = lane_1_here
lane_1_each (suc context) = elsewhere context 1
    (none_elsewhere context (place 1 0 0 ∷ []) ∙ sym (on-spots (suc context) 0 (place 1 0 0 ∷ [])))

-- ---- what they show of openings

abbrev both : List SealedMessage
both = message 1 ∷ message 2 ∷ []

the_opening : OpeningShows toy all_entries 0 0 (map unseal both) 0 2
the_opening = record {
  front = [];
  others = entry (place 1 0 0) 0 Opened ∷ [];
  after = [];
  due = 1;
  first_stamp = 1;
  stands = refl;
  of_others = refl;
  due_is = refl;
  guessed = refl;
  missed = refl;
}

abbrev context_opened : Option Ask → ℕ
context_opened None = 0
context_opened (Some Nothing) = 0
context_opened (Some (ToSeal context aad text)) = 0
context_opened (Some (ToOpen context aad ct)) = 0
context_opened (Some (ToOpenAll context messages)) = context

abbrev messages_opened : Option Ask → List SealedMessage
messages_opened None = []
messages_opened (Some Nothing) = []
messages_opened (Some (ToSeal context aad text)) = []
messages_opened (Some (ToOpen context aad ct)) = []
messages_opened (Some (ToOpenAll context messages)) = messages

abbrev is_opening : Option Ask → Bool
is_opening None = false
is_opening (Some Nothing) = false
is_opening (Some (ToSeal context aad text)) = false
is_opening (Some (ToOpen context aad ct)) = false
is_opening (Some (ToOpenAll context messages)) = true

openings_0 : (context call : ℕ) (messages : List SealedMessage) → slice_get (lane_of overtaken 0) call ≡ Some (ToOpenAll context messages)
    → OpeningShows toy (seen_by 0 context) 0 call (map unseal messages) (guess_at (lane_of overtaken 0) (of_lane_0 0 0) call) (guess_at (lane_of overtaken 0) (of_lane_0 2 0) call)
openings_0 context zero messages is =
    subst (λ k. OpeningShows toy (seen_by 0 k) 0 0 (map unseal messages) 0 2) (ap context_opened is)
    (subst (λ ms. OpeningShows toy all_entries 0 0 (map unseal ms) 0 2) (ap messages_opened is) the_opening)
openings_0 context (suc call) messages is = absurd (no_ask (ToOpenAll context messages) is)

openings_1 : (context call : ℕ) (messages : List SealedMessage) → slice_get (lane_of overtaken 1) call ≡ Some (ToOpenAll context messages)
    → OpeningShows toy (seen_by 1 context) 1 call (map unseal messages) (guess_at (lane_of overtaken 1) [] call) (guess_at (lane_of overtaken 1) [] call)
openings_1 context zero messages is = absurd (let f : false ≡ true = ap is_opening is in cc)
openings_1 context (suc call) messages is = absurd (no_ask (ToOpenAll context messages) is)

-- ---- what they show of stamps

two_rise : (a b e f : Entry) → IsBefore a.place b.place → a.stamp < b.stamp → In e (a ∷ b ∷ []) → In f (a ∷ b ∷ []) → IsBefore e.place f.place → e.stamp < f.stamp
two_rise a b e f order low i j before = elim i [
  | inl ea ↦ elim j [
    | inl fa ↦ absurd (not_before a.place (subst (λ (x : Entry). IsBefore a.place x.place) (sym fa) (subst (λ (x : Entry). IsBefore x.place f.place) (sym ea) before)))
    | inr k ↦ elim k [
      | inl fb ↦ subst (λ (x : Entry). x.stamp < f.stamp) ea (subst (λ (x : Entry). a.stamp < x.stamp) fb low)
      | inr z ↦ absurd z
    ]
  ]
  | inr k ↦ elim k [
    | inl eb ↦ elim j [
      | inl fa ↦ absurd (not_both a.place b.place order (subst (λ (x : Entry). IsBefore b.place x.place) (sym fa) (subst (λ (x : Entry). IsBefore x.place f.place) (sym eb) before)))
      | inr l ↦ elim l [
        | inl fb ↦ absurd (not_before b.place (subst (λ (x : Entry). IsBefore b.place x.place) (sym fb) (subst (λ (x : Entry). IsBefore x.place f.place) (sym eb) before)))
        | inr z ↦ absurd z
      ]
    ]
    | inr z ↦ absurd z
  ]
]

in_order_0 : (c d : ℕ) (e f : Entry) → In e (own 0 (seen_by 0 c)) → In f (own 0 (seen_by 0 d)) → IsBefore e.place f.place → e.stamp < f.stamp
in_order_0 zero zero e f i j before = two_rise (entry (place 0 0 0) 1 Opened) (entry (place 0 0 1) 2 Opened) e f (inr (refl, omega arith)) (omega arith) i j before
in_order_0 zero (suc d) e f i j before = absurd j
in_order_0 (suc c) d e f i j before = absurd i

in_order_1 : (c d : ℕ) (e f : Entry) → In e (own 1 (seen_by 1 c)) → In f (own 1 (seen_by 1 d)) → IsBefore e.place f.place → e.stamp < f.stamp
in_order_1 zero zero e f i j before = elim i [
  | inl ea ↦ elim j [
    | inl fa ↦ absurd (not_before e.place (subst (λ (x : Entry). IsBefore e.place x.place) (sym fa ∙ ea) before))
    | inr z ↦ absurd z
  ]
  | inr z ↦ absurd z
]
in_order_1 zero (suc d) e f i j before = absurd j
in_order_1 (suc c) d e f i j before = absurd i

from_members : (lane : ℕ) (seen : ℕ → List Entry) → ((c d : ℕ) (e f : Entry) → In e (own lane (seen c)) → In f (own lane (seen d)) → IsBefore e.place f.place → e.stamp < f.stamp) → StampsInOrder lane seen
from_members lane seen t = λ c d e f i j. t c d e f (in_contains (own lane (seen c)) e i) (in_contains (own lane (seen d)) f j)

lanes_show : (lane : ℕ) → lane < 2 → LaneIsShown overtaken ciphers shown lane
lanes_show zero low = record { each = lane_0_each; openings = record { count = refl; each = openings_0 }; in_order = from_members 0 (seen_by 0) in_order_0 }
lanes_show (suc zero) low = record { each = lane_1_each; openings = record { count = refl; each = openings_1 }; in_order = from_members 1 (seen_by 1) in_order_1 }
lanes_show (suc (suc lane)) low = absurd (omega arith)

-- ---- the contexts

no_others : (lane : ℕ) → 2 ≤ lane → own lane all_entries ≡ []
no_others lane high =
    none_in (own lane all_entries) (λ e i.
    let k = filter_in (λ (x : Entry). x.place.lane == lane) e all_entries i in
    let mine : e.place.lane ≡ lane = eqb-true e.place.lane lane k.1 in
    elim k.0 [
      | inl is ↦ (let f : 1 ≡ e.place.lane = ap (λ (x : Entry). x.place.lane) is in absurd (omega arith))
      | inr j ↦ elim j [
        | inl is ↦ (let f : 0 ≡ e.place.lane = ap (λ (x : Entry). x.place.lane) is in absurd (omega arith))
        | inr l ↦ elim l [
          | inl is ↦ (let f : 0 ≡ e.place.lane = ap (λ (x : Entry). x.place.lane) is in absurd (omega arith))
          | inr z ↦ absurd z
        ]
      ]
    ])

context_0 : Closes 2 (λ lane. seen_by lane 0) all_entries
context_0 = record {
  begins = λ lane low. begins lane low;
  whole = λ lane low. whole lane low;
  others = no_others;
  rise = (omega arith, (omega arith, tt));
}
  where
    begins : (lane : ℕ) → lane < 2 → IsPrefix (seen_by lane 0) all_entries
    begins zero low = ([], refl)
    begins (suc zero) low = (entry (place 0 0 0) 1 Opened ∷ entry (place 0 0 1) 2 Opened ∷ [], refl)
    begins (suc (suc lane)) low = absurd (omega arith)

    whole : (lane : ℕ) → lane < 2 → own lane (seen_by lane 0) ≡ own lane all_entries
    whole zero low = refl
    whole (suc zero) low = refl
    whole (suc (suc lane)) low = absurd (omega arith)

no_entries : (context lane : ℕ) → seen_by lane (suc context) ≡ []
no_entries context zero = refl
no_entries context (suc zero) = refl
no_entries context (suc (suc lane)) = refl

all_close : (context : ℕ) → Closes 2 (λ lane. seen_by lane context) (book shown context)
all_close zero = context_0
all_close (suc context) = record {
  begins = λ lane low. ([], ap (λ es. es ++ []) (no_entries context lane));
  whole = λ lane low. ap (own lane) (no_entries context lane);
  others = λ lane high. refl;
  rise = tt;
}

pub all_shown : AllShown overtaken ciphers shown
all_shown = record { lanes = lanes_show; closes = all_close; count = 3; given = IsPermutation-refl (0 ∷ 1 ∷ 2 ∷ []) }
