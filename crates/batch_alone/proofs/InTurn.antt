-- The table of a plan whose lanes are served one after another: what it tells of each call, and that
-- with the places of calls it is one list.
use Rattle.std.proofs.Common.{◌≡◌, ◌≢◌, ℕ, zero, suc, ◌+◌, ◌*◌, ◌<◌, ◌≤◌, ◌==◌, ◌||◌, ◌&&◌, Bool, true, false, cond, List, [], ◌∷◌, ◌++◌, length, map, drop, Option, Some, None, sym, refl, ap, ◌∙◌, subst, arith, append_assoc, append-nil, length-append, eq-eqb, ne_eqb, eqb-true, ◌⊎◌, inl, inr, if◌then◌else◌}
use Rattle.std.specs.Prelude.{slice_get, slice_index_or, nat_lt, Contains}
use Rattle.std.specs.List.{range_with_len}
use Rattle.std.proofs.lemmas.List.{map-append}
use Rattle.std.proofs.lemmas.List.FromFn.{length-range_with_len}
use Rattle.call_places.specs.declared.entries.Entry.{Entry}
use Rattle.call_places.specs.declared.entries.Place.{Place}
use Rattle.call_places.specs.declared.entries.Step.TheVariants.{Note}
use Rattle.call_places.specs.Notes.{note_entry, live_at, AreLive}
use Rattle.call_places.proofs.Live.{AreLive-push}
use Rattle.hpke_context.specs.Contexts.{ContextView}
use Rattle.context_books.specs.Batches.{Ask, Spot, spots, block, place, items_in, context_in, asked}
use Rattle.context_books.specs.Merging.{all_asked}
use Rattle.context_books.specs.Histories.{stamped_on}
use Rattle.context_books.specs.Legal.{is_same_place}
use Rattle.context_books.specs.Lists.{In}
use Rattle.context_books.proofs.Members.{in_contains, value_at}
use Rattle.context_core.proofs.Histories.{stamped_on-append, stamped_on-other}
use Rattle.batch_plans.specs.declared.plan.Plan.{Plan}
use Rattle.batch_plans.specs.declared.plan.CallLine.{CallLine}
use Rattle.batch_plans.specs.Calls.{context_of}
use Rattle.batch_plans.specs.Limits.{first_name}
use Rattle.batch_plans.specs.Names.{at_position}
use Rattle.batch_plans.specs.LiveText.{tells_live}
use Rattle.batch_plans.specs.ReplyText.{numbered}
use Rattle.context_books.specs.Asks.{ask_of}
use Rattle.context_books.specs.Live.{Noting, noting, noting_in, was_live, looked_up}
use Rattle.context_books.specs.LiveChecks.{note_ask, pairs, note_mark}
use Rattle.result_lines.proofs.RunTexts.{drop_step}
use Rattle.batch_alone.specs.Tables.{SoFar, next_stamp, tells, served, with_note, with_places, after_call, after_calls, after_lanes, nothing, table_of}
use Rattle.batch_alone.proofs.LaneByLane.{in_order}
use Rattle.batch_alone.proofs.TableStamps.{other_stamps, others, other_stamps-append, others-append, other_stamps-spots, others-spots, call_spot, called_spots}

-- what is asked asks one of so many contexts
abbrev pub IsLow : ℕ → Ask → Type 0
IsLow n ask = (0 < length (items_in ask)) → context_in ask < n

-- ---- where notes stand

-- a note of this call of the lane or of a later one
abbrev IsOf : ℕ → ℕ → Entry → Type 0
IsOf lane number e = (e.place.lane ≡ lane) × (number ≤ e.place.call)

-- or of a later lane
abbrev IsFrom : ℕ → ℕ → Entry → Type 0
IsFrom lane number e =
    (lane < e.place.lane) ⊎ ((e.place.lane ≡ lane) × (number ≤ e.place.call))

-- a note of an earlier call of the lane, or of an earlier lane
abbrev IsEarlier : ℕ → ℕ → Entry → Type 0
IsEarlier lane number e =
    (e.place.lane < lane) ⊎ ((e.place.lane ≡ lane) × (e.place.call < number))

abbrev EachIs : (Entry → Type 0) → List Entry → Type 0
EachIs P [] = Unit {0}
EachIs P (e ∷ es) = P e × EachIs P es

each-append : (P : Entry → Type 0) (xs ys : List Entry) → EachIs P xs → EachIs P ys
    → EachIs P (xs ++ ys)
each-append P [] ys a b = b
each-append P (x ∷ xs) ys a b = (a.0, each-append P xs ys a.1 b)

each-weaker : (P Q : Entry → Type 0) → ((e : Entry) → P e → Q e) → (xs : List Entry) → EachIs P xs
    → EachIs Q xs
each-weaker P Q f [] a = tt
each-weaker P Q f (x ∷ xs) a = (f x a.0, each-weaker P Q f xs a.1)

-- notes of other calls tell nothing of this one
tells_none : (es : List Entry) (lane number : ℕ)
    → EachIs (λ e. e.place.lane ≡ lane → e.place.call ≢ number) es
    → was_live es (place lane number 0) ≡ false
tells_none [] lane number t = refl
tells_none (e ∷ es) lane number t =
    one (e.place.lane == lane) refl (tells_none es lane number t.1)
  where
    one : (b : Bool) → (e.place.lane == lane) ≡ b → was_live es (place lane number 0) ≡ false
        → was_live (e ∷ es) (place lane number 0) ≡ false
    one true is rest =
        (λ i. ((is i && ne_eqb e.place.call number (t.0 (eqb-true e.place.lane lane is)) i
        && (e.place.item == 0)) && tells_live e.step) || rest i)
    one false is rest =
        (λ i. ((is i && (e.place.call == number) && (e.place.item == 0)) && tells_live e.step)
        || rest i)

earlier_none : (es : List Entry) (lane number : ℕ) → EachIs (IsEarlier lane number) es
    → was_live es (place lane number 0) ≡ false
earlier_none es lane number t = tells_none es lane number (each-weaker (IsEarlier lane number)
    (λ e. e.place.lane ≡ lane → e.place.call ≢ number) (λ e is same at. elim is [
      | inl low ↦ absurd (omega arith)
      | inr low ↦ (let lt = low.1 in absurd (omega arith))
    ]) es t)

later_none : (es : List Entry) (lane number : ℕ) → EachIs (IsFrom lane (number + 1)) es
    → was_live es (place lane number 0) ≡ false
later_none es lane number t = tells_none es lane number (each-weaker (IsFrom lane (number + 1))
    (λ e. e.place.lane ≡ lane → e.place.call ≢ number) (λ e is same at. elim is [
      | inl low ↦ absurd (omega arith)
      | inr low ↦ (let le = low.1 in absurd (omega arith))
    ]) es t)

live-append : (xs ys : List Entry) (p : Place)
    → was_live (xs ++ ys) p ≡ (was_live xs p || was_live ys p)
live-append [] ys p = refl
live-append (x ∷ xs) ys p =
    ap (λ b. (is_same_place x.place p && tells_live x.step) || b) (live-append xs ys p)
    ∙ or_assoc (is_same_place x.place p && tells_live x.step) (was_live xs p) (was_live ys p)
  where
    or_assoc : (a b c : Bool) → (a || (b || c)) ≡ ((a || b) || c)
    or_assoc true b c = refl
    or_assoc false b c = refl

length-spots : (c l call i m : ℕ) → length (spots c (block l call i m)) ≡ m
length-spots c l call i zero = refl
length-spots c l call i (suc m) = ap suc (length-spots c l call (i + 1) m)

module _ (plan : Plan) (standing : List (Option ContextView)) where
  abbrev after : ℕ → ℕ → CallLine → SoFar → SoFar
  after = after_call plan standing

  abbrev afters : ℕ → ℕ → List CallLine → SoFar → SoFar
  afters = after_calls plan standing

  -- ---- the notes that calls add

  abbrev own_note : ℕ → ℕ → Option Noting → SoFar → List Entry
  own_note lane number None t = []
  own_note lane number (Some n) t =
      note_entry (place lane number 0) (next_stamp t) n.name n.act (live_at t.notes n.name) ∷ []

  with_note_is : (lane number : ℕ) (n : Option Noting) (t : SoFar)
      → (with_note lane number n t).notes ≡ t.notes ++ own_note lane number n t
  with_note_is lane number None t = sym (append-nil t.notes)
  with_note_is lane number (Some n) t = refl

  -- the notes grow by such notes
  record Grows (P : Entry → Type 0) (old new : SoFar) : Type 0 where
    more : List Entry
    is : new.notes ≡ old.notes ++ more
    each : EachIs P more

  own_of : (lane number : ℕ) (n : Option Noting) (t : SoFar)
      → EachIs (IsOf lane number) (own_note lane number n t)
  own_of lane number None t = tt
  own_of lane number (Some n) t = ((refl, omega arith), tt)

  calls_grow : (lane number : ℕ) (calls : List CallLine) (t : SoFar)
      → Grows (IsOf lane number) t (afters lane number calls t)
  calls_grow lane number [] t =
      record { more = []; is = sym (append-nil t.notes); each = tt }
  calls_grow lane number (call ∷ calls) t =
      let n = noting plan standing call in
      let rest = calls_grow lane (number + 1) calls (after lane number call t) in
      let own = own_note lane number n t in
      record {
        more = own ++ rest.more;
        is = rest.is ∙ ap (λ es. es ++ rest.more) (with_note_is lane number n t)
            ∙ append_assoc t.notes own rest.more;
        each = each-append (IsOf lane number) own rest.more (own_of lane number n t)
            (each-weaker (IsOf lane (number + 1)) (IsOf lane number)
            (λ e of. (of.0, (let low = of.1 in omega arith))) rest.more rest.each);
      }

  lanes_grow : (lane : ℕ) (lanes : List (List CallLine)) (t : SoFar)
      → Grows (IsFrom lane 0) t (after_lanes plan standing lane lanes t)
  lanes_grow lane [] t = record { more = []; is = sym (append-nil t.notes); each = tt }
  lanes_grow lane (calls ∷ lanes) t =
      let first = calls_grow lane 0 calls t in
      let rest = lanes_grow (lane + 1) lanes (afters lane 0 calls t) in
      record {
        more = first.more ++ rest.more;
        is = rest.is ∙ ap (λ es. es ++ rest.more) first.is
            ∙ append_assoc t.notes first.more rest.more;
        each = each-append (IsFrom lane 0) first.more rest.more
            (each-weaker (IsOf lane 0) (IsFrom lane 0) (λ e of. inr of) first.more first.each)
            (each-weaker (IsFrom (lane + 1) 0) (IsFrom lane 0) (λ e is. elim is [
              | inl low ↦ inl (omega arith)
              | inr at ↦ inl (let same = at.0 in omega arith)
            ]) rest.more rest.each);
      }

  -- ---- what is live

  call_live : (lane number : ℕ) (n : Option Noting) (t : SoFar) → AreLive t.notes
      → AreLive (with_note lane number n t).notes
  call_live lane number None t live = live
  call_live lane number (Some n) t live = AreLive-push t.notes
      (note_entry (place lane number 0) (next_stamp t) n.name n.act (live_at t.notes n.name)) live refl

  calls_live : (lane number : ℕ) (calls : List CallLine) (t : SoFar) → AreLive t.notes
      → AreLive (afters lane number calls t).notes
  calls_live lane number [] t live = live
  calls_live lane number (call ∷ calls) t live = calls_live lane (number + 1) calls
      (after lane number call t) (call_live lane number (noting plan standing call) t live)

  lanes_live : (lane : ℕ) (lanes : List (List CallLine)) (t : SoFar) → AreLive t.notes
      → AreLive (after_lanes plan standing lane lanes t).notes
  lanes_live lane [] t live = live
  lanes_live lane (calls ∷ lanes) t live =
      lanes_live (lane + 1) lanes (afters lane 0 calls t) (calls_live lane 0 calls t live)

  pub table_live : AreLive (table_of plan standing).notes
  table_live = lanes_live 0 plan.lanes nothing (λ i e at. absurd (cc))

  -- ---- what the notes say of their calls

  abbrev call_at : Place → Option CallLine
  call_at p = slice_get (slice_index_or plan.lanes p.lane []) p.call

  pub record SaysCall (e : Entry) : Type 0 where
    pub noting_is : Noting
    pub at : noting_in plan standing (call_at e.place) ≡ Some noting_is
    pub live : Bool
    pub step : e.step ≡ Note noting_is.name noting_is.act live

  call_says : (lane number : ℕ) (call : CallLine) (n : Option Noting) (t : SoFar)
      → call_at (place lane number 0) ≡ Some call → noting plan standing call ≡ n
      → EachIs SaysCall (own_note lane number n t)
  call_says lane number call None t at is = tt
  call_says lane number call (Some n) t at is = (
    record {
      noting_is = n;
      at = ap (noting_in plan standing) at ∙ is;
      live = live_at t.notes n.name;
      step = refl;
    },
    tt,
  )

  calls_say : (lane number : ℕ) (calls : List CallLine) (t : SoFar)
      → drop number (slice_index_or plan.lanes lane []) ≡ calls
      → EachIs SaysCall t.notes → EachIs SaysCall (afters lane number calls t).notes
  calls_say lane number [] t from says = says
  calls_say lane number (call ∷ calls) t from says =
      let n = noting plan standing call in
      let s = drop_step (slice_index_or plan.lanes lane []) calls number call from in
      calls_say lane (number + 1) calls (after lane number call t) s.1
      (subst (EachIs SaysCall) (sym (with_note_is lane number n t))
      (each-append SaysCall t.notes (own_note lane number n t) says
      (call_says lane number call n t s.0 refl)))

  lanes_say : (lane : ℕ) (lanes : List (List CallLine)) (t : SoFar) → drop lane plan.lanes ≡ lanes
      → EachIs SaysCall t.notes → EachIs SaysCall (after_lanes plan standing lane lanes t).notes
  lanes_say lane [] t from says = says
  lanes_say lane (calls ∷ lanes) t from says =
      let s = drop_step plan.lanes lanes lane calls from in
      lanes_say (lane + 1) lanes (afters lane 0 calls t) s.1
      (calls_say lane 0 calls t
      (value_at plan.lanes lane calls [] s.0) says)

  each_in : (P : Entry → Type 0) (es : List Entry) (e : Entry) → EachIs P es → In e es → P e
  each_in P [] e all i = absurd i
  each_in P (x ∷ es) e all i = elim i [
    | inl is ↦ subst P is all.0
    | inr later ↦ each_in P es e all.1 later
  ]

  pub table_says : (e : Entry) → Contains (table_of plan standing).notes e → SaysCall e
  table_says e has = each_in SaysCall (table_of plan standing).notes e
      (lanes_say 0 plan.lanes nothing refl tt)
      (in_contains (table_of plan standing).notes e has)

  -- ---- the calls as they are served

  -- all notes tell of a call what was live there
  module _ (notes : List Entry) where
    abbrev looked : ℕ → ℕ → CallLine → CallLine
    looked = looked_up plan notes

    call_told : (lane number : ℕ) (n : Option Noting) (t : SoFar) (later : List Entry)
        → notes ≡ (t.notes ++ own_note lane number n t) ++ later
        → EachIs (IsEarlier lane number) t.notes → EachIs (IsFrom lane (number + 1)) later
        → was_live notes (place lane number 0) ≡ tells n t
    call_told lane number n t later is before behind =
        let p = place lane number 0 in
        ap (λ es. was_live es p) is
        ∙ live-append (t.notes ++ own_note lane number n t) later p
        ∙ (λ i. live-append t.notes (own_note lane number n t) p i
        || later_none later lane number behind i)
        ∙ (λ i. (earlier_none t.notes lane number before i || own_tells n i) || false)
        ∙ or_false (tells n t)
      where
        or_false : (b : Bool) → (b || false) ≡ b
        or_false true = refl
        or_false false = refl

        own_tells : (n : Option Noting)
            → was_live (own_note lane number n t) (place lane number 0) ≡ tells n t
        own_tells None = refl
        own_tells (Some n) =
            (λ i. ((eq-eqb lane lane refl i && eq-eqb number number refl i && true)
            && live_at t.notes n.name) || false)
            ∙ or_false (live_at t.notes n.name)

    call_served : (lane number : ℕ) (call : CallLine) (t : SoFar) (later : List Entry)
        → notes ≡ (with_note lane number (noting plan standing call) t).notes ++ later
        → EachIs (IsEarlier lane number) t.notes → EachIs (IsFrom lane (number + 1)) later
        → looked lane number call ≡ served plan standing call t
    call_served lane number call t later is before behind =
        let n = noting plan standing call in
        ap (λ b. if nat_lt (context_of call) first_name || b then at_position plan call else call)
        (call_told lane number n t later
        (is ∙ ap (λ es. es ++ later) (with_note_is lane number n t)) before behind)

  -- ---- one list

  module _ (notes : List Entry) (n : ℕ)
      (low : (call : CallLine) → IsLow n (ask_of plan standing call)) where
    abbrev ask : ℕ → ℕ → CallLine → Ask
    ask lane number call = ask_of plan standing (looked_up plan notes lane number call)

    abbrev both : ℕ → ℕ → List CallLine → List Spot
    both lane number calls = all_asked lane (2 * number)
        (pairs (λ call. note_ask n (noting plan standing call)) (ask lane) number calls)

    abbrev alone : ℕ → ℕ → List CallLine → List Spot
    alone lane number calls = all_asked lane number (numbered (ask lane) number calls)

    -- from a state to another one the list grows by these spots, of which these are of calls
    pub record Lists (old new : SoFar) (all calls : List Spot) : Type 0 where
      pub next : next_stamp new ≡ next_stamp old + length all
      pub noted : map note_mark new.notes
          ≡ map note_mark old.notes ++ stamped_on n (next_stamp old) all
      pub stamps : new.stamps ≡ old.stamps ++ other_stamps n (next_stamp old) all
      pub others : others n all ≡ map call_spot calls

    lists_none : (t : SoFar) → Lists t t [] []
    lists_none t = record {
      next = omega arith;
      noted = sym (append-nil (map note_mark t.notes));
      stamps = sym (append-nil t.stamps);
      others = refl;
    }

    lists_more : (t u v : SoFar) (a b c d : List Spot) → Lists t u a c → Lists u v b d
        → Lists t v (a ++ b) (c ++ d)
    lists_more t u v a b c d x y =
        let s = next_stamp t in
        record {
          next = (let e = x.next in let f = y.next in let g = length-append a b in omega arith);
          noted = y.noted
              ∙ (λ i. x.noted i ++ stamped_on n (x.next i) b)
              ∙ append_assoc (map note_mark t.notes) (stamped_on n s a)
              (stamped_on n (s + length a) b)
              ∙ ap (λ ms. map note_mark t.notes ++ ms) (sym (stamped_on-append n s a b));
          stamps = y.stamps
              ∙ (λ i. x.stamps i ++ other_stamps n (x.next i) b)
              ∙ append_assoc t.stamps (other_stamps n s a) (other_stamps n (s + length a) b)
              ∙ ap (λ ss. t.stamps ++ ss) (sym (other_stamps-append n s a b));
          others = others-append n a b ∙ (λ i. x.others i ++ y.others i)
              ∙ sym (map-append call_spot c d);
        }

    -- a note
    note_lists : (lane number : ℕ) (o : Option Noting) (t : SoFar)
        → Lists t (with_note lane number o t) (asked lane (2 * number) (note_ask n o)) []
    note_lists lane number None t = lists_none t
    note_lists lane number (Some m) t =
        let here = eq-eqb n n refl in
        let s = next_stamp t in
        let e = note_entry (place lane number 0) s m.name m.act (live_at t.notes m.name) in
        record {
          next = (let g = length-append t.notes (e ∷ []) in omega arith);
          noted = map-append note_mark t.notes (e ∷ [])
              ∙ ap (λ b. map note_mark t.notes ++ cond b (note_mark e ∷ []) []) (sym here);
          stamps = sym (append-nil t.stamps)
              ∙ ap (λ b. t.stamps ++ cond b [] (s ∷ [])) (sym here);
          others = ap (λ b. cond b [] (record {
            context = n;
            place = place lane (2 * number) 0;
          } ∷ [])) here;
        }

    -- the places of a call
    places_list : (lane number : ℕ) (a : Ask) (t : SoFar) → IsLow n a
        → Lists t (with_places (length (items_in a)) t) (asked lane (2 * number + 1) a)
        (asked lane number a)
    places_list lane number a t is = by_count (length (items_in a)) refl
      where
        by_count : (m : ℕ) → length (items_in a) ≡ m
            → Lists t (with_places m t) (spots (context_in a) (block lane (2 * number + 1) 0 m))
            (spots (context_in a) (block lane number 0 m))
        by_count zero count = record {
          next = (let g = length-append t.stamps [] in omega arith);
          noted = sym (append-nil (map note_mark t.notes));
          stamps = refl;
          others = refl;
        }
        by_count (suc m) count =
            let under = is (omega (arith, count)) in
            let ne : (context_in a == n) ≡ false =
            ne_eqb (context_in a) n (λ e. absurd (omega arith)) in
            let s = next_stamp t in
            record {
              next = (let g = length-append t.stamps (range_with_len s (suc m)) in
                  let h = length-range_with_len s (suc m) in
                  let k = length-spots (context_in a) lane (2 * number + 1) 0 (suc m) in omega arith);
              noted = sym (append-nil (map note_mark t.notes))
                  ∙ ap (λ ms. map note_mark t.notes ++ ms) (sym (stamped_on-other n (context_in a) s
                  (block lane (2 * number + 1) 0 (suc m)) ne));
              stamps = ap (λ ss. t.stamps ++ ss)
                  (sym (other_stamps-spots n (context_in a) s lane (2 * number + 1) 0 (suc m) ne));
              others = others-spots n (context_in a) lane (2 * number + 1) 0 (suc m) ne
                  ∙ sym (called_spots (context_in a) lane number 0 (suc m));
            }

    calls_list : (lane number : ℕ) (calls : List CallLine) (t : SoFar) (later : List Entry)
        → notes ≡ (afters lane number calls t).notes ++ later
        → EachIs (IsEarlier lane number) t.notes → EachIs (IsFrom lane (number + length calls)) later
        → Lists t (afters lane number calls t) (both lane number calls) (alone lane number calls)
    calls_list lane number [] t later is before behind = lists_none t
    calls_list lane number (call ∷ calls) t later is before behind =
        let o = noting plan standing call in
        let u = with_note lane number o t in
        let v = after lane number call t in
        let grown = calls_grow lane (number + 1) calls v in
        let looks : looked_up plan notes lane number call ≡ served plan standing call t =
        call_served notes lane number call t (grown.more ++ later)
        (is ∙ ap (λ es. es ++ later) grown.is ∙ append_assoc u.notes grown.more later) before
        (each-append (IsFrom lane (number + 1)) grown.more later
        (each-weaker (IsOf lane (number + 1)) (IsFrom lane (number + 1)) (λ e of. inr of) grown.more
        grown.each)
        (each-weaker (IsFrom lane (number + suc (length calls))) (IsFrom lane (number + 1))
        (λ e from. elim from [
          | inl low ↦ inl low
          | inr at ↦ inr (at.0, (let le = at.1 in omega arith))
        ]) later behind)) in
        let a : Ask = ask lane number call in
        let first = note_lists lane number o t in
        let second = subst (λ x. Lists u (with_places (length (items_in (ask_of plan standing x))) u)
        (asked lane (2 * number + 1) a) (asked lane number a)) looks
        (places_list lane number a u (low (looked_up plan notes lane number call))) in
        let rest = calls_list lane (number + 1) calls v later is
        (subst (EachIs (IsEarlier lane (number + 1))) (sym (with_note_is lane number o t))
        (each-append (IsEarlier lane (number + 1)) t.notes (own_note lane number o t)
        (each-weaker (IsEarlier lane number) (IsEarlier lane (number + 1)) (λ e from. elim from [
          | inl lt ↦ inl lt
          | inr at ↦ inr (at.0, (let lt = at.1 in omega arith))
        ]) t.notes before) (own_earlier o)))
        (subst (λ k. EachIs (IsFrom lane k) later)
        (let e : number + suc (length calls) ≡ number + 1 + length calls = omega arith in e) behind) in
        let tail = pairs (λ call. note_ask n (noting plan standing call)) (ask lane) (number + 1) calls in
        subst (λ k. Lists t (afters lane (number + 1) calls v)
        (asked lane (2 * number) (note_ask n o) ++ (asked lane (2 * number + 1) a
        ++ all_asked lane k tail))
        (asked lane number a ++ alone lane (number + 1) calls))
        (let e : 2 * (number + 1) ≡ 2 * number + 1 + 1 = omega arith in e)
        (lists_more t u (afters lane (number + 1) calls v) (asked lane (2 * number) (note_ask n o))
        (asked lane (2 * number + 1) a ++ both lane (number + 1) calls) []
        (asked lane number a ++ alone lane (number + 1) calls) first
        (lists_more u v (afters lane (number + 1) calls v) (asked lane (2 * number + 1) a)
        (both lane (number + 1) calls) (asked lane number a) (alone lane (number + 1) calls)
        second rest))
      where
        own_earlier : (o : Option Noting)
            → EachIs (IsEarlier lane (number + 1)) (own_note lane number o t)
        own_earlier None = tt
        own_earlier (Some m) = (inr (refl, omega arith), tt)

    lanes_list : (lane : ℕ) (lanes : List (List CallLine)) (t : SoFar)
        → notes ≡ (after_lanes plan standing lane lanes t).notes
        → EachIs (IsEarlier lane 0) t.notes
        → Lists t (after_lanes plan standing lane lanes t)
        (in_order lane (numbered (λ l calls. pairs (λ call. note_ask n (noting plan standing call))
        (ask l) 0 calls) lane lanes))
        (in_order lane (numbered (λ l calls. numbered (ask l) 0 calls) lane lanes))
    lanes_list lane [] t is before = lists_none t
    lanes_list lane (calls ∷ lanes) t is before =
        let u = afters lane 0 calls t in
        let grown = lanes_grow (lane + 1) lanes u in
        let first = calls_list lane 0 calls t grown.more (is ∙ grown.is) before
        (each-weaker (IsFrom (lane + 1) 0) (IsFrom lane (0 + length calls)) (λ e from. elim from [
          | inl lt ↦ inl (omega arith)
          | inr at ↦ inl (let same = at.0 in omega arith)
        ]) grown.more grown.each) in
        let own = calls_grow lane 0 calls t in
        let rest = lanes_list (lane + 1) lanes u is
        (subst (EachIs (IsEarlier (lane + 1) 0)) (sym own.is)
        (each-append (IsEarlier (lane + 1) 0) t.notes own.more
        (each-weaker (IsEarlier lane 0) (IsEarlier (lane + 1) 0) (λ e from. elim from [
          | inl lt ↦ inl (omega arith)
          | inr at ↦ inl (let same = at.0 in omega arith)
        ]) t.notes before)
        (each-weaker (IsOf lane 0) (IsEarlier (lane + 1) 0)
        (λ e of. inl (let same = of.0 in omega arith)) own.more own.each))) in
        lists_more t u (after_lanes plan standing (lane + 1) lanes u) (both lane 0 calls)
        (in_order (lane + 1) (numbered (λ l calls.
        pairs (λ call. note_ask n (noting plan standing call)) (ask l) 0 calls) (lane + 1) lanes))
        (alone lane 0 calls)
        (in_order (lane + 1) (numbered (λ l calls. numbered (ask l) 0 calls) (lane + 1) lanes))
        first rest

    -- all notes and places, and those of calls alone
    pub table_lists : notes ≡ (table_of plan standing).notes
        → Lists nothing (table_of plan standing)
        (in_order 0 (numbered (λ l calls. pairs (λ call. note_ask n (noting plan standing call))
        (ask l) 0 calls) 0 plan.lanes))
        (in_order 0 (numbered (λ l calls. numbered (ask l) 0 calls) 0 plan.lanes))
    table_lists is = lanes_list 0 plan.lanes nothing is tt
