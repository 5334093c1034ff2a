-- With no schedule the core's lanes go to their ends one after another.
use Rattle.std.proofs.Common.{◌≡◌, ◌≢◌, ℕ, suc, ◌+◌, List, [], ◌∷◌, ◌++◌, length, sym, refl, ap, ◌∙◌, subst, arith, append_assoc, Some}
use Rattle.std.specs.Prelude.{slice_get, replicate, map}
use Rattle.hpke_context.specs.Answers.{Cipher}
use Rattle.context_books.specs.Batches.{Batch, Ask, Nothing, ToSeal, ToOpen, ToOpenAll, Spot, asked, context_in}
use Rattle.context_books.specs.Merging.{all_asked}
use Rattle.context_books.proofs.Lists.{append-nil}
use Rattle.context_core.specs.Core as core
use Rattle.context_core.specs.Core.{Phase, Draw, Guess, Check, Commit, Finish, Task, phases, tasks, all_tasks, Lane, Core, Moved, moved, step, due_in, with_moved, happens_at, happens, all_happen, at_first, start, to_the_ends}
use Rattle.context_core.proofs.ScheduleEnds.{all_happen-append}
use Rattle.context_core.proofs.ScheduleLists.{slice_get-set_same, slice_get-set_other}

-- the places that all lanes ask for, from this lane on, one lane after another
abbrev pub in_order : ℕ → Batch → List Spot
in_order lane [] = []
in_order lane (asks ∷ batch) = all_asked lane 0 asks ++ in_order (lane + 1) batch

-- ---- the places that steps give

abbrev by_phase : ℕ → ℕ → Ask → Phase → List Spot
by_phase l call ask Draw = asked l call ask
by_phase l call ask Guess = []
by_phase l call ask Check = []
by_phase l call ask Commit = asked l call ask
by_phase l call ask Finish = []

abbrev all_given : ℕ → List Task → List Spot
all_given l [] = []
all_given l (t ∷ ts) = by_phase l t.call t.ask t.phase ++ all_given l ts

given_is : (due l call : ℕ) (ask : Ask) (phase : Phase) (s : Lane)
    → (moved due l call ask phase s).given ≡ by_phase l call ask phase
given_is due l call ask Draw s = refl
given_is due l call ask Guess s = refl
given_is due l call ask Check s = refl
given_is due l call ask Commit s = refl
given_is due l call ask Finish s = refl

left_is : (due l call : ℕ) (ask : Ask) (phase : Phase) (s : Lane)
    → (moved due l call ask phase s).lane.to_come ≡ s.to_come
left_is due l call ask Draw s = refl
left_is due l call ask Guess s = refl
left_is due l call ask Check s = refl
left_is due l call ask Commit s = refl
left_is due l call ask Finish s = refl

all_given-append : (l : ℕ) (xs ys : List Task)
    → all_given l (xs ++ ys) ≡ all_given l xs ++ all_given l ys
all_given-append l [] ys = refl
all_given-append l (t ∷ xs) ys =
    ap (λ g. by_phase l t.call t.ask t.phase ++ g) (all_given-append l xs ys)
    ∙ sym (append_assoc (by_phase l t.call t.ask t.phase) (all_given l xs) (all_given l ys))

-- those of a call are what it asks for
call_given : (l call : ℕ) (ask : Ask)
    → all_given l (tasks call ask (phases ask)) ≡ asked l call ask
call_given l call Nothing = refl
call_given l call (ToSeal context aad text) = append-nil (asked l call (ToSeal context aad text))
call_given l call (ToOpen context aad ct) = append-nil (asked l call (ToOpen context aad ct))
call_given l call (ToOpenAll context messages) =
    append-nil (asked l call (ToOpenAll context messages))

lane_given : (l call : ℕ) (asks : List Ask) → all_given l (all_tasks call asks) ≡ all_asked l call asks
lane_given l call [] = refl
lane_given l call (ask ∷ asks) =
    all_given-append l (tasks call ask (phases ask)) (all_tasks (call + 1) asks)
    ∙ (λ i. call_given l call ask i ++ lane_given l (call + 1) asks i)

-- ---- a lane goes to its end

module _ (batch : Batch) (ciphers : ℕ → Cipher) where
  -- the history has its places behind, and other lanes stay
  record Goes (w : Core) (l : ℕ) (ts : List Task) (end : Core) : Type 0 where
    history : end.history ≡ w.history ++ all_given l ts
    others : (k : ℕ) → k ≢ l → slice_get end.lanes k ≡ slice_get w.lanes k

  lane_goes : (ts : List Task) (w : Core) (l : ℕ) (s : Lane) → slice_get w.lanes l ≡ Some s
      → s.to_come ≡ ts
      → Goes w l ts (all_happen batch ciphers w (replicate (length ts) l))
  lane_goes [] w l s at is =
      record { history = sym (append-nil w.history); others = λ k ne. refl }
  lane_goes (t ∷ ts) w l s at is =
      let m : Moved = step (due_in batch ciphers w.history) l s (t ∷ ts) in
      let next : Core = with_moved w l m in
      let same : next ≡ happens batch ciphers w l =
      sym (ap (happens_at batch ciphers w l) at
      ∙ ap (λ ts. with_moved w l (step (due_in batch ciphers w.history) l s ts)) is) in
      let due = due_in batch ciphers w.history (context_in t.ask) in
      let rest = lane_goes ts next l m.lane (slice_get-set_same w.lanes l m.lane s at)
      (left_is due l t.call t.ask t.phase (record s { to_come = ts })) in
      subst (λ (v : Core). Goes w l (t ∷ ts) (all_happen batch ciphers v (replicate (length ts) l)))
      same (record {
        history = rest.history
            ∙ ap (λ g. (w.history ++ g) ++ all_given l ts)
            (given_is due l t.call t.ask t.phase (record s { to_come = ts }))
            ∙ append_assoc w.history (by_phase l t.call t.ask t.phase) (all_given l ts);
        others = λ k ne. rest.others k ne ∙ slice_get-set_other w.lanes l k m.lane ne;
      })

  -- from a lane on, each to its end
  lanes_go : (lanes : Batch) (k : ℕ) (w : Core)
      → ((i : ℕ) → slice_get w.lanes (k + i) ≡ slice_get (map at_first lanes) i)
      → (all_happen batch ciphers w (to_the_ends k lanes)).history ≡ w.history ++ in_order k lanes
  lanes_go [] k w fresh = sym (append-nil w.history)
  lanes_go (asks ∷ lanes) k w fresh =
      let first : k + 0 ≡ k = omega arith in
      let ts = all_tasks 0 asks in
      let goes = lane_goes ts w k (at_first asks) (ap (slice_get w.lanes) (sym first) ∙ fresh 0) refl in
      let mid : Core = all_happen batch ciphers w (replicate (length ts) k) in
      let later : (i : ℕ) → slice_get mid.lanes (k + 1 + i) ≡ slice_get (map at_first lanes) i =
      λ i. goes.others (k + 1 + i) (λ e. absurd (omega arith))
      ∙ ap (slice_get w.lanes) (let e : k + 1 + i ≡ k + suc i = omega arith in e) ∙ fresh (suc i) in
      ap (λ (v : Core). v.history)
      (all_happen-append batch ciphers w (replicate (length ts) k) (to_the_ends (k + 1) lanes))
      ∙ lanes_go lanes (k + 1) mid later
      ∙ ap (λ h. h ++ in_order (k + 1) lanes) goes.history
      ∙ ap (λ g. (w.history ++ g) ++ in_order (k + 1) lanes) (lane_given k 0 asks)
      ∙ append_assoc w.history (all_asked k 0 asks) (in_order (k + 1) lanes)

  pub goes_in_order : (core.core batch ciphers []).history ≡ in_order 0 batch
  goes_in_order = lanes_go batch 0 (start batch)
      (λ i. ap (slice_get (map at_first batch)) (let e : 0 + i ≡ i = omega arith in e))
