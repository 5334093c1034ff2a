-- What each step keeps: how far a lane is, where its places stand, and its guesses.
use Rattle.std.proofs.Common.{◌≡◌, ◌≢◌, ℕ, zero, suc, ◌+◌, ◌<◌, ◌≤◌, List, [], ◌∷◌, ◌++◌, length, sym, refl, ap, ◌∙◌, subst, arith, append_assoc, length-append, Option, Some, None, inl, inr}
use Rattle.std.proofs.lemmas.List.{length-set, length-map}
use Rattle.std.proofs.lemmas.Option.{slice_get_within}
use Rattle.std.specs.Prelude.{slice_get, slice_set, map}
use Rattle.hpke_context.specs.Answers.{Cipher}
use Rattle.context_books.specs.Batches.{Batch, Ask, Nothing, ToSeal, ToOpen, ToOpenAll, Spot, context_in, asked, lane_of}
use Rattle.context_books.specs.Merging.{all_asked, own_spots}
use Rattle.context_books.specs.Guesses.{guess_of}
use Rattle.context_books.proofs.Lists.{own_spots-append, own_spots-asked, own_spots-asked_other, all_asked-append, append-nil, is_cases}
use Rattle.context_core.specs.Core as core
use Rattle.context_core.specs.Core.{Phase, Draw, Guess, Check, Commit, Finish, Task, all_tasks, Lane, Core, Moved, step, due_in, happens_at, happens, all_happen, at_first, start}
use Rattle.context_core.proofs.ScheduleLists.{one_value, slice_get-set_same, slice_get-set_other}
use Rattle.context_core.specs.CoreStages.{Stage, tasks_at, placed, Fresh, HasGuess, HasTests, HasPlaces}

-- ---- how far a lane is with its next call

module _ (batch : Batch) (ciphers : ℕ → Cipher) where
  -- the number was due after a front of the history that holds all places of the lane
  pub record Waits (h : List Spot) (l context guess : ℕ) : Type 0 where
    pub front : List Spot
    pub others : List Spot
    pub stands : h ≡ front ++ others
    pub of_others : own_spots l others ≡ []
    pub number : due_in batch ciphers front context ≡ guess

  -- the number was due after a front of the history that holds all earlier places of the lane and
  -- ends before those of the call
  pub record StandsIn (h : List Spot) (l call : ℕ) (a : Ask) (guess : ℕ) : Type 0 where
    pub front : List Spot
    pub others : List Spot
    pub after : List Spot
    pub stands : h ≡ front ++ (others ++ (asked l call a ++ after))
    pub of_others : own_spots l others ≡ []
    pub number : due_in batch ciphers front (context_in a) ≡ guess

  -- these calls stand in the history, and the lane kept these guesses of them
  abbrev pub AllStand : List Spot → ℕ → ℕ → List Ask → List ℕ → Type 0
  AllStand h l call [] guesses = guesses ≡ []
  AllStand h l call (a ∷ asks) guesses =
      (g : ℕ) × (more : List ℕ) × (guesses ≡ guess_of a g ++ more) × StandsIn h l call a g × AllStand h l (call + 1) asks more

  abbrev pub IsPending : Stage → List Spot → ℕ → ℕ → List Ask → ℕ → Type 0
  IsPending stage h l call [] guess = Unit {0}
  IsPending Fresh h l call (a ∷ rest) guess = Unit {0}
  IsPending HasGuess h l call (a ∷ rest) guess = Waits h l (context_in a) guess
  IsPending HasTests h l call (a ∷ rest) guess = Waits h l (context_in a) guess
  IsPending HasPlaces h l call (a ∷ rest) guess = (g : ℕ) × StandsIn h l call a g × (guess_of a g ≡ guess_of a guess)

  pub record LaneHolds (h : List Spot) (l : ℕ) (s : Lane) : Type 0 where
    pub done : List Ask
    pub rest : List Ask
    pub stage : Stage
    pub all : lane_of batch l ≡ done ++ rest
    pub at : s.to_come ≡ tasks_at stage (length done) rest
    pub places : own_spots l h ≡ all_asked l 0 done ++ placed stage l (length done) rest
    pub stand : AllStand h l 0 done s.guesses
    pub pending : IsPending stage h l (length done) rest s.guess

  -- ---- a longer history

  waits_grown : (h x : List Spot) (l context g : ℕ) → own_spots l x ≡ [] → Waits h l context g → Waits (h ++ x) l context g
  waits_grown h x l context g none t = record {
    front = t.front;
    others = t.others ++ x;
    stands = ap (λ m. m ++ x) t.stands ∙ append_assoc t.front t.others x;
    of_others = own_spots-append l t.others x ∙ (λ i. t.of_others i ++ none i);
    number = t.number;
  }

  stands_grown : (h x : List Spot) (l call : ℕ) (a : Ask) (g : ℕ) → StandsIn h l call a g → StandsIn (h ++ x) l call a g
  stands_grown h x l call a g t = record {
    front = t.front;
    others = t.others;
    after = t.after ++ x;
    stands = ap (λ m. m ++ x) t.stands ∙ append_assoc t.front (t.others ++ (asked l call a ++ t.after)) x
        ∙ ap (λ m. t.front ++ m) (append_assoc t.others (asked l call a ++ t.after) x ∙ ap (λ m. t.others ++ m) (append_assoc (asked l call a) t.after x));
    of_others = t.of_others;
    number = t.number;
  }

  all_stand_grown : (h x : List Spot) (l call : ℕ) (asks : List Ask) (gs : List ℕ) → AllStand h l call asks gs → AllStand (h ++ x) l call asks gs
  all_stand_grown h x l call [] gs t = t
  all_stand_grown h x l call (a ∷ asks) gs t = (t.0, t.1, t.2, stands_grown h x l call a t.0 t.3, all_stand_grown h x l (call + 1) asks t.1 t.4)

  pending_grown : (stage : Stage) (h x : List Spot) (l call : ℕ) (rest : List Ask) (g : ℕ) → own_spots l x ≡ [] → IsPending stage h l call rest g → IsPending stage (h ++ x) l call rest g
  pending_grown stage h x l call [] g none t = tt
  pending_grown Fresh h x l call (a ∷ rest) g none t = tt
  pending_grown HasGuess h x l call (a ∷ rest) g none t = waits_grown h x l (context_in a) g none t
  pending_grown HasTests h x l call (a ∷ rest) g none t = waits_grown h x l (context_in a) g none t
  pending_grown HasPlaces h x l call (a ∷ rest) g none t = (t.0, stands_grown h x l call a t.0 t.1, t.2)

  -- what another lane appends changes nothing for this one
  pub lane_grown : (h x : List Spot) (l : ℕ) (s : Lane) → own_spots l x ≡ [] → LaneHolds h l s → LaneHolds (h ++ x) l s
  lane_grown h x l s none t = record {
    done = t.done;
    rest = t.rest;
    stage = t.stage;
    all = t.all;
    at = t.at;
    places = own_spots-append l h x ∙ (λ i. t.places i ++ none i) ∙ append-nil (all_asked l 0 t.done ++ placed t.stage l (length t.done) t.rest);
    stand = all_stand_grown h x l 0 t.done s.guesses t.stand;
    pending = pending_grown t.stage h x l (length t.done) t.rest s.guess none t.pending;
  }

  -- ---- one step of the lane

  all_stand_push : (h : List Spot) (l call : ℕ) (asks : List Ask) (gs : List ℕ) (a : Ask) (g : ℕ) → AllStand h l call asks gs → StandsIn h l (call + length asks) a g
      → AllStand h l call (asks ++ a ∷ []) (gs ++ guess_of a g)
  all_stand_push h l call [] gs a g t n =
      (g, [], ap (λ m. m ++ guess_of a g) t ∙ sym (append-nil (guess_of a g)), subst (λ k. StandsIn h l k a g) (let e : call + 0 ≡ call = omega arith in e) n, refl)
  all_stand_push h l call (b ∷ asks) gs a g t n = (
    t.0,
    t.1 ++ guess_of a g,
    ap (λ m. m ++ guess_of a g) t.2 ∙ append_assoc (guess_of b t.0) t.1 (guess_of a g),
    t.3,
    all_stand_push h l (call + 1) asks t.1 a g t.4 (subst (λ k. StandsIn h l k a g) (let e : call + suc (length asks) ≡ call + 1 + length asks = omega arith in e) n),
  )

  -- the call is finished
  finished : (h : List Spot) (l : ℕ) (more : List Task) (guess g : ℕ) (gs : List ℕ) (done : List Ask) (a : Ask) (rest : List Ask)
      → lane_of batch l ≡ done ++ (a ∷ rest) → more ≡ all_tasks (length done + 1) rest → own_spots l h ≡ all_asked l 0 done ++ asked l (length done) a
      → AllStand h l 0 done gs → StandsIn h l (length done) a g → guess_of a g ≡ guess_of a guess
      → LaneHolds h l (record { to_come = more; guess = guess; guesses = gs ++ guess_of a guess })
  finished h l more guess g gs done a rest all is places stand here same =
      let call : 0 + length done ≡ length done = omega arith in
      let count : length (done ++ a ∷ []) ≡ length done + 1 = length-append done (a ∷ []) in
      record {
        done = done ++ a ∷ [];
        rest = rest;
        stage = Fresh;
        all = all ∙ sym (append_assoc done (a ∷ []) rest);
        at = is ∙ ap (λ n. all_tasks n rest) (sym count) ∙ fresh (length (done ++ a ∷ [])) rest;
        places = places ∙ ap (λ k. all_asked l 0 done ++ asked l k a) (sym call) ∙ ap (λ m. all_asked l 0 done ++ m) (sym (append-nil (asked l (0 + length done) a)))
            ∙ sym (all_asked-append l 0 done (a ∷ [])) ∙ sym (nothing l (length (done ++ a ∷ [])) rest (all_asked l 0 (done ++ a ∷ [])));
        stand = subst (λ m. AllStand h l 0 (done ++ a ∷ []) (gs ++ m)) same (all_stand_push h l 0 done gs a g stand (subst (λ k. StandsIn h l k a g) (sym call) here));
        pending = free rest;
      }
    where
      fresh : (n : ℕ) (asks : List Ask) → all_tasks n asks ≡ tasks_at Fresh n asks
      fresh n [] = refl
      fresh n (b ∷ asks) = refl

      nothing : (l n : ℕ) (asks : List Ask) (ps : List Spot) → ps ++ placed Fresh l n asks ≡ ps
      nothing l n [] ps = append-nil ps
      nothing l n (b ∷ asks) ps = append-nil ps

      free : (asks : List Ask) → IsPending Fresh h l (length (done ++ a ∷ [])) asks guess
      free [] = tt
      free (b ∷ asks) = tt

  -- the call's places are given
  given : (h : List Spot) (l : ℕ) (more : List Task) (guess g : ℕ) (gs : List ℕ) (done : List Ask) (a : Ask) (rest : List Ask)
      → lane_of batch l ≡ done ++ (a ∷ rest) → more ≡ tasks_at HasPlaces (length done) (a ∷ rest) → own_spots l h ≡ all_asked l 0 done ++ []
      → AllStand h l 0 done gs → Waits h l (context_in a) g → guess_of a g ≡ guess_of a guess
      → LaneHolds (h ++ asked l (length done) a) l (record { to_come = more; guess = guess; guesses = gs })
  given h l more guess g gs done a rest all is places stand waits same =
      let x = asked l (length done) a in
      record {
        done = done;
        rest = a ∷ rest;
        stage = HasPlaces;
        all = all;
        at = is;
        places = own_spots-append l h x ∙ (λ i. (places ∙ append-nil (all_asked l 0 done)) i ++ own_spots-asked l (length done) a i);
        stand = all_stand_grown h x l 0 done gs stand;
        pending = (
          g,
          record {
            front = waits.front;
            others = waits.others;
            after = [];
            stands = ap (λ m. m ++ x) waits.stands ∙ append_assoc waits.front waits.others x ∙ ap (λ m. waits.front ++ (waits.others ++ m)) (sym (append-nil x));
            of_others = waits.of_others;
            number = waits.number;
          },
          same,
        );
      }

  here : (h : List Spot) (l : ℕ) (a : Ask) → Waits h l (context_in a) (due_in batch ciphers h (context_in a))
  here h l a = record { front = h; others = []; stands = sym (append-nil h); of_others = refl; number = refl }

  -- the number that is due is guessed
  guessed : (h : List Spot) (l : ℕ) (more : List Task) (gs : List ℕ) (done : List Ask) (a : Ask) (rest : List Ask)
      → lane_of batch l ≡ done ++ (a ∷ rest) → more ≡ tasks_at HasGuess (length done) (a ∷ rest) → own_spots l h ≡ all_asked l 0 done ++ [] → AllStand h l 0 done gs
      → LaneHolds h l (record { to_come = more; guess = due_in batch ciphers h (context_in a); guesses = gs })
  guessed h l more gs done a rest all is places stand =
      record { done = done; rest = a ∷ rest; stage = HasGuess; all = all; at = is; places = places; stand = stand; pending = here h l a }

  abbrev after : List Spot → ℕ → Lane → List Task → Moved
  after h l s ts = step (due_in batch ciphers h) l s ts

  -- a step keeps what holds of its lane
  moves : (h : List Spot) (l : ℕ) (s : Lane) (stage : Stage) (done rest : List Ask) → lane_of batch l ≡ done ++ rest → s.to_come ≡ tasks_at stage (length done) rest
      → own_spots l h ≡ all_asked l 0 done ++ placed stage l (length done) rest → AllStand h l 0 done s.guesses → IsPending stage h l (length done) rest s.guess
      → LaneHolds (h ++ (after h l s (tasks_at stage (length done) rest)).given) l (after h l s (tasks_at stage (length done) rest)).lane
  moves h l s stage done [] all is places stand pending =
      lane_grown h [] l s refl (record { done = done; rest = []; stage = stage; all = all; at = is; places = places; stand = stand; pending = pending })
  moves h l s Fresh done (Nothing ∷ rest) all is places stand pending =
      lane_grown h [] l _ refl (finished h l (all_tasks (length done + 1) rest) s.guess (due_in batch ciphers h 0) s.guesses done Nothing rest all refl places stand
      (record { front = h; others = []; after = []; stands = sym (append-nil h); of_others = refl; number = refl }) refl)
  moves h l s Fresh done (ToSeal c aad text ∷ rest) all is places stand pending =
      given h l _ s.guess (due_in batch ciphers h c) s.guesses done (ToSeal c aad text) rest all refl places stand (here h l (ToSeal c aad text)) refl
  moves h l s Fresh done (ToOpen c aad ct ∷ rest) all is places stand pending =
      lane_grown h [] l _ refl (guessed h l _ s.guesses done (ToOpen c aad ct) rest all refl places stand)
  moves h l s Fresh done (ToOpenAll c ms ∷ rest) all is places stand pending =
      lane_grown h [] l _ refl (guessed h l _ s.guesses done (ToOpenAll c ms) rest all refl places stand)
  moves h l s HasGuess done (a ∷ rest) all is places stand pending =
      lane_grown h [] l _ refl
      (record { done = done; rest = a ∷ rest; stage = HasTests; all = all; at = refl; places = places; stand = stand; pending = pending })
  moves h l s HasTests done (a ∷ rest) all is places stand pending = given h l _ s.guess s.guess s.guesses done a rest all refl places stand pending refl
  moves h l s HasPlaces done (a ∷ rest) all is places stand pending =
      lane_grown h [] l _ refl (finished h l (all_tasks (length done + 1) rest) s.guess pending.0 s.guesses done a rest all refl places stand pending.1 pending.2)

  pub lane_moves : (h : List Spot) (l : ℕ) (s : Lane) → LaneHolds h l s → LaneHolds (h ++ (after h l s s.to_come).given) l (after h l s s.to_come).lane
  lane_moves h l s t =
      subst (λ ts. LaneHolds (h ++ (after h l s ts).given) l (after h l s ts).lane) (sym t.at)
      (moves h l s t.stage t.done t.rest t.all t.at t.places t.stand t.pending)

-- a step gives places of its own lane alone
pub gives_own : (due : ℕ → ℕ) (k l : ℕ) (s : Lane) (ts : List Task) → l ≢ k → own_spots k (step due l s ts).given ≡ []
gives_own due k l s [] ne = refl
gives_own due k l s (t ∷ more) ne = own_of t.phase
  where
    own_of : (phase : Phase) → own_spots k (core.moved (due (context_in t.ask)) l t.call t.ask phase (record s { to_come = more })).given ≡ []
    own_of Draw = own_spots-asked_other k l t.call t.ask ne
    own_of Guess = refl
    own_of Check = refl
    own_of Commit = own_spots-asked_other k l t.call t.ask ne
    own_of Finish = refl

-- ---- the whole state

module _ (batch : Batch) (ciphers : ℕ → Cipher) where
  pub record Holds (w : Core) : Type 0 where
    pub count : length w.lanes ≡ length batch
    pub each : (l : ℕ) (s : Lane) → slice_get w.lanes l ≡ Some s → LaneHolds batch ciphers w.history l s
    pub others : (l : ℕ) → length batch ≤ l → own_spots l w.history ≡ []

  happens_keeps : (w : Core) (l : ℕ) (o : Option Lane) → slice_get w.lanes l ≡ o → Holds w → Holds (happens_at batch ciphers w l o)
  happens_keeps w l None e t = t
  happens_keeps w l (Some s) e t =
      let m : Moved = step (due_in batch ciphers w.history) l s s.to_come in
      let within : l < length w.lanes = slice_get_within w.lanes l s e in
      record {
        count = length-set w.lanes l m.lane ∙ t.count;
        each = λ k u at. elim (is_cases l k) [
          | inl same ↦
              (let here : slice_get (slice_set w.lanes l m.lane) l ≡ Some u = ap (slice_get (slice_set w.lanes l m.lane)) same ∙ at in
              let is : m.lane ≡ u = one_value m.lane u (sym (slice_get-set_same w.lanes l m.lane s e) ∙ here) in
              let mine : LaneHolds batch ciphers (w.history ++ m.given) l m.lane = lane_moves batch ciphers w.history l s (t.each l s e) in
              subst (λ n. LaneHolds batch ciphers (w.history ++ m.given) n u) same (subst (λ v. LaneHolds batch ciphers (w.history ++ m.given) l v) is mine))
          | inr ne ↦ lane_grown batch ciphers w.history m.given k u (gives_own (due_in batch ciphers w.history) k l s s.to_come ne)
              (t.each k u (sym (slice_get-set_other w.lanes l k m.lane (λ f. ne (sym f))) ∙ at))
        ];
        others = λ k high. own_spots-append k w.history m.given
            ∙ (λ i. t.others k high i ++ gives_own (due_in batch ciphers w.history) k l s s.to_come (λ f. let c = t.count in omega arith) i);
      }

  pub all_happen_keeps : (w : Core) (events : List ℕ) → Holds w → Holds (all_happen batch ciphers w events)
  all_happen_keeps w [] t = t
  all_happen_keeps w (l ∷ ls) t = all_happen_keeps (happens batch ciphers w l) ls (happens_keeps w l (slice_get w.lanes l) refl t)

  first_of_lane : (lanes : Batch) (l : ℕ) (s : Lane) → slice_get (map at_first lanes) l ≡ Some s → at_first (lane_of lanes l) ≡ s
  first_of_lane [] l s e = absurd (let f : None ≡ Some s = e in cc)
  first_of_lane (asks ∷ lanes) zero s e = one_value (at_first asks) s e
  first_of_lane (asks ∷ lanes) (suc l) s e = first_of_lane lanes l s e

  begun : (l : ℕ) (asks : List Ask) → lane_of batch l ≡ asks → LaneHolds batch ciphers [] l (at_first asks)
  begun l [] is = record { done = []; rest = []; stage = Fresh; all = is; at = refl; places = refl; stand = refl; pending = tt }
  begun l (a ∷ asks) is = record { done = []; rest = a ∷ asks; stage = Fresh; all = is; at = refl; places = refl; stand = refl; pending = tt }

  pub start_holds : Holds (start batch)
  start_holds = record {
    count = length-map batch at_first;
    each = λ l s e. subst (λ (u : Lane). LaneHolds batch ciphers [] l u) (first_of_lane batch l s e) (begun l (lane_of batch l) refl);
    others = λ l high. refl;
  }
