-- The entries that a call adds have stamps that are no lower than what its lane's seat knew.
use Rattle.std.proofs.Common.{◌≡◌, ◌⊎◌, inl, inr, ℕ, ◌+◌, ◌≤◌, List, [], ◌∷◌, ◌++◌, length, Option, Some, sym, refl, ap, ◌∙◌, subst, arith, append-nil, Bor}
use Rattle.std.specs.Prelude.{slice_set, Contains}
use Rattle.std.proofs.lemmas.List.Elements.{Contains-append_cases}
use Rattle.call_places.specs.declared.entries.Entry.{Entry}
use Rattle.call_places.specs.declared.entries.Step.{Step}
use Rattle.call_places.specs.declared.spans.Item.{Item as Spans}
use Rattle.call_places.specs.Entries.{own}
use Rattle.turn_lock.specs.Passes.{LockId, PassView}
use Rattle.stamp_counter.specs.Seats.{SeatView, CounterView}
use Rattle.hpke_context.specs.Contexts.{ContextView}
use Rattle.context_books.specs.Batches.{place}
use Rattle.context_books.specs.Entries.{entry, entries_from}
use Rattle.context_books.proofs.Members.{in_contains}
use Rattle.context_books.specs.Lists.{In}
use Rattle.context_books.proofs.Lists.{is_cases}
use Rattle.lane_workers.proofs.ShowingEntries.{own-append, own_in}
use Rattle.context_books.specs.declared.book.Draw.{Draw}
use Rattle.context_books.specs.Books.{drawn_step}
use Rattle.context_books.specs.Openings.{opening_steps}
use Rattle.shared_context.specs.Stamped.{IsNote, ComesAfter}
use Rattle.shared_context.specs.Calls.{SharedView}
use Rattle.batch_plans.specs.declared.plan.Plan.{Plan}
use Rattle.batch_plans.specs.declared.plan.CallLine.{CallLine}
use Rattle.batch_plans.specs.Calls.{context_of}
use Rattle.lane_workers.specs.declared.works.LaneWork.{LaneWork}
use Rattle.lane_workers.specs.Served.{seen_of, seen_by}
use Rattle.lane_workers.specs.Turns.{pass_at, with_table, Draws, Guesses, Commits, Opens}
use Rattle.lane_workers.specs.Lanes.{IsPassAt, HasSeat, MayServe}
use Rattle.lane_workers.specs.Readings.{AddsLater}
use Rattle.lane_workers.proofs.Onward.{pass_within, pass_same, pass_other}
use Rattle.lane_workers.proofs.Found.{one_of}

-- ---- own entries

-- an entry of this call, with no lower stamp
abbrev IsLate : ℕ → ℕ → Entry → Type 0
IsLate low call e = (e.place.call ≡ call) × (low ≤ e.stamp)

added_late : (lane call i first low : ℕ) (steps : List Step) (e : Entry)
    → In e (entries_from lane call i first steps) → low ≤ first → IsLate low call e
added_late lane call i first low [] e has least = absurd has
added_late lane call i first low (step ∷ steps) e has least = elim has [
  | inl is ↦ (
    sym (ap (λ (x : Entry). x.place.call) is),
    (let s = ap (λ (x : Entry). x.stamp) is in omega arith),
  )
  | inr behind ↦ added_late lane call (i + 1) (first + 1) low steps e behind (omega arith)
]

own_later : (lane low call : ℕ) (seen others added : List Entry) → own lane others ≡ []
    → ((e : Entry) → In e added → IsLate low call e) → (e : Entry)
    → Contains (own lane ((seen ++ others) ++ added)) e
    → Contains (own lane seen) e ⊎ IsLate low call e
own_later lane low call seen others added none late e has =
    let parts : own lane ((seen ++ others) ++ added) ≡ own lane seen ++ own lane added =
    own-append lane (seen ++ others) added
    ∙ ap (λ es. es ++ own lane added) (own-append lane seen others
    ∙ ap (λ es. own lane seen ++ es) none ∙ append-nil (own lane seen)) in
    elim (Contains-append_cases (own lane seen) (own lane added) e
    (subst (λ es. Contains es e) parts has)) [
      | inl before ↦ inl before
      | inr now ↦ inr (late e (own_in lane e added (in_contains (own lane added) e now)))
    ]

-- ---- passes and seats

-- a pass of this lane, of a context whose stamps the counter draws
pub record IsPassOf (counter : Option (Bor CounterView)) (lane : ℕ) (p : PassView) : Type 0 where
  pub number : p.number ≡ lane
  pub counted : (stamps : Bor CounterView) × (counter ≡ Some stamps)
      × (p.lock.terms.counter ≡ stamps.now.id)

-- the pass of a call that is served
pub pass_of : (plan : Plan) (contexts : List (Option SharedView)) (counter : Option (Bor CounterView))
    (k : ℕ) (call : CallLine) (s : SharedView) (w : LaneWork)
    → MayServe plan contexts counter k call s w → (p : PassView)
    → pass_at w.passes.items (context_of call) ≡ Some p → IsPassOf counter w.lane p
pass_of plan contexts counter k call s w m p was =
    let o = m.may.is_at.passes (context_of call) s m.stands in
    let of : IsPassAt s w.lane k p = subst (IsPassAt s w.lane k) (one_of o.0 p (sym o.1 ∙ was)) o.2 in
    let counted = (m.may.shared.each (context_of call) s m.stands).counted in
    record {
      number = of.number;
      counted = (
        counted.0,
        counted.1,
        ap (λ (l : LockId). l.terms.counter) of.of ∙ counted.2,
      );
    }

module _ (counter : Option (Bor CounterView)) (low : ℕ) where
  -- the stamps of a turn come after what the seat knew
  first_later : (lane : ℕ) (p : PassView) (held : Option SeatView) (seat back : SeatView)
      (before : List Entry) (first count : ℕ) → IsPassOf counter lane p → HasSeat counter low held
      → held ≡ Some seat → ComesAfter p.lock.terms.counter seat back before first count → low ≤ first
  first_later lane p held seat back before first count of has had after =
      let s = has of.counted.0 of.counted.1 in
      let knows = subst (λ (x : SeatView). low ≤ x.low) (one_of s.0 seat (sym s.1 ∙ had)) s.3 in
      let least = after.least in
      omega arith

  seat_later : (lane : ℕ) (p : PassView) (held : Option SeatView) (seat back : SeatView)
      (before : List Entry) (first count : ℕ) → IsPassOf counter lane p → HasSeat counter low held
      → held ≡ Some seat → ComesAfter p.lock.terms.counter seat back before first count
      → HasSeat counter low (Some back)
  seat_later lane p held seat back before first count of has had after = λ stamps is.
      let counted = of.counted in
      let id = counted.2 ∙ ap (λ (x : Bor CounterView). x.now.id)
      (one_of counted.0 stamps (sym counted.1 ∙ is)) in
      let late = first_later lane p held seat back before first count of has had after in
      let above = after.above in
      (back, refl, subst (λ i. IsNote i back) id after.note, omega arith)

-- ---- from one lane to another

module _ (counter : Option (Bor CounterView)) (low call : ℕ) where
  -- passes and seat stay as they were
  pub same_later : (old new : LaneWork) → new.passes.items ≡ old.passes.items → new.seat ≡ old.seat
      → HasSeat counter low old.seat → AddsLater counter low call old new
  same_later old new passes seat has = record {
    seat = subst (HasSeat counter low) (sym seat) has;
    later = λ c e now. inl (subst (λ ps. Contains (own old.lane (seen_of ps c)) e) passes now);
  }

  later_twice : (old mid new : LaneWork) → mid.lane ≡ old.lane → AddsLater counter low call old mid
      → AddsLater counter low call mid new → AddsLater counter low call old new
  later_twice old mid new lane first last = record {
    seat = last.seat;
    later = λ c e now. elim (last.later c e
        (subst (λ l. Contains (own l (seen_of new.passes.items c)) e) (sym lane) now)) [
          | inl before ↦ first.later c e
              (subst (λ l. Contains (own l (seen_of mid.passes.items c)) e) lane before)
          | inr late ↦ inr late
        ];
  }

  -- a pass comes back with entries of others, and own ones behind them
  turn_later : (old new : LaneWork) (number : ℕ) (p q : PassView) (others added : List Entry)
      → pass_at old.passes.items number ≡ Some p
      → new.passes.items ≡ slice_set old.passes.items number (Some q)
      → q.seen ≡ (p.seen ++ others) ++ added → own old.lane others ≡ []
      → ((e : Entry) → In e added → IsLate low call e) → HasSeat counter low new.seat
      → AddsLater counter low call old new
  turn_later old new number p q others added was passes seen none late seat =
      let lane = old.lane in
      record {
        seat = seat;
        later = λ c e now. elim (is_cases number c) [
          | inl same ↦ (let before : seen_of old.passes.items c ≡ p.seen =
              ap (seen_of old.passes.items) (sym same) ∙ ap seen_by was in
              let after : seen_of new.passes.items c ≡ (p.seen ++ others) ++ added =
              ap (seen_of new.passes.items) (sym same) ∙ ap (λ ps. seen_of ps number) passes
              ∙ ap seen_by (pass_same old.passes.items number q
              (pass_within old.passes.items number p was)) ∙ seen in
              subst (λ es. Contains (own lane es) e ⊎ IsLate low call e) (sym before)
              (own_later lane low call p.seen others added none late e
              (subst (λ es. Contains (own lane es) e) after now)))
          | inr apart ↦ inl (subst (λ es. Contains (own lane es) e)
              (ap (λ ps. seen_of ps c) passes
              ∙ ap seen_by (pass_other old.passes.items number c q apart)) now)
        ];
      }

  -- ---- turns

  pub draws_later : (old new : LaneWork) (number : ℕ) (drawn : Draw)
      → (d : Draws old new number call drawn) → IsPassOf counter old.lane d.pass
      → HasSeat counter low old.seat → AddsLater counter low call old new
  draws_later old new number drawn d of has =
      let h = d.has_drawn in
      let late = first_later counter low old.lane d.pass old.seat d.seat d.back h.before h.stamp 1 of has d.had
      h.stamps in
      let added = entry (place d.pass.number call 0) h.stamp (drawn_step drawn) ∷ [] in
      turn_later old new number d.pass d.after h.others.0 added d.was d.passes
      (h.added ∙ ap (λ es. es ++ added) h.others.1)
      (subst (λ i. own i h.others.0 ≡ []) of.number h.others.2)
      (λ e one. added_late d.pass.number call 0 h.stamp low (drawn_step drawn ∷ []) e one late)
      (subst (HasSeat counter low) (sym d.seat_is) (seat_later counter low old.lane d.pass old.seat d.seat d.back
      h.before h.stamp 1 of has d.had h.stamps))

  guesses_later : (old new : LaneWork) (line : CallLine) (number guess : ℕ)
      → (d : Guesses old new line number guess)
      → d.pass.number ≡ old.lane → HasSeat counter low old.seat → AddsLater counter low call old new
  guesses_later old new line number guess d is has =
      let h = d.has_guessed in
      turn_later old new number d.pass d.after h.others.0 [] d.was d.passes
      (h.others.1 ∙ sym (append-nil (d.pass.seen ++ h.others.0)))
      (subst (λ i. own i h.others.0 ≡ []) is h.others.2) (λ e none. absurd none)
      (subst (HasSeat counter low) (sym d.seat) has)

  commits_later : (old new : LaneWork) (view : ContextView) (number : ℕ) (pool : List ℕ)
      (items : List Spans) (first missed : ℕ)
      → (d : Commits old new view number call pool items first missed)
      → IsPassOf counter old.lane d.pass → HasSeat counter low old.seat → AddsLater counter low call old new
  commits_later old new view number pool items first missed d of has =
      let h = d.has_committed in
      let steps = opening_steps view first pool items in
      let count = length steps in
      let late = first_later counter low old.lane d.pass old.seat d.seat d.back h.before h.first count of has d.had
      h.stamps in
      let added = entries_from d.pass.number call 0 h.first steps in
      turn_later old new number d.pass d.after h.others.0 added d.was d.passes
      (h.added ∙ ap (λ es. es ++ added) h.others.1)
      (subst (λ i. own i h.others.0 ≡ []) of.number h.others.2)
      (λ e one. added_late d.pass.number call 0 h.first low steps e one late)
      (subst (HasSeat counter low) (sym d.seat_is) (seat_later counter low old.lane d.pass old.seat d.seat d.back
      h.before h.first count of has d.had h.stamps))

  pub opens_later : (plan : Plan) (s : SharedView) (old new : LaneWork) (line : CallLine)
      (guess missed : ℕ) → (o : Opens plan s old new call line guess missed)
      → IsPassOf counter old.lane o.guesses.pass → HasSeat counter low old.seat
      → AddsLater counter low call old new
  opens_later plan s old new line guess missed o of has =
      let number = context_of line in
      let after = o.guesses.has_guessed.after in
      let mid = with_table o.guessed o.table in
      let same : o.guesses.after ≡ o.commits.pass = one_of o.guesses.after o.commits.pass
      (sym (pass_same old.passes.items number o.guesses.after
      (pass_within old.passes.items number o.guesses.pass o.guesses.was))
      ∙ sym (ap (λ ps. pass_at ps number) o.guesses.passes) ∙ o.commits.was) in
      let of_then : IsPassOf counter mid.lane o.commits.pass =
      subst (IsPassOf counter mid.lane) same (record {
        number = after.number ∙ of.number ∙ sym o.guesses.same.lane;
        counted = (
          of.counted.0,
          of.counted.1,
          ap (λ (l : LockId). l.terms.counter) after.lock ∙ of.counted.2,
        );
      }) in
      let looked = guesses_later old o.guessed line number guess o.guesses of.number has in
      let done = commits_later mid o.committed s.context number plan.pool _ o.first missed
      o.commits of_then looked.seat in
      later_twice old o.guessed new o.guesses.same.lane looked
      (later_twice o.guessed o.committed new o.commits.same.lane
      (record { seat = done.seat; later = done.later })
      (same_later o.committed new (ap (λ (x : LaneWork). x.passes.items) o.new_is)
      (ap (λ (x : LaneWork). x.seat) o.new_is) done.seat))
