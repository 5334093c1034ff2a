-- How clap goes on and stops, word by word, for a command with these rules and no subcommand.
use Rattle.std.proofs.Common.{◌≡◌, false, sym, ap, ap₂, subst, List, [], ◌∷◌}
use Rattle.std.specs.Prelude.{is_some, fold}
use Rattle.clap.specs.Kinds.{Kinds, or_else}
use Rattle.clap.specs.Walk.{Row, Rule, Text, Walk, finished, settled, walked}
use Rattle.clap.specs.Simple.{App, Shape, built, entered}
use Rattle.clap.specs.Faults.{check_fault, defaults_fault, entered_fault, settle_fault, turn_fault, walk_fault}
use Rattle.clap.specs.declared.error.kind.ErrorKind.{ErrorKind}
use Rattle.batch_words.specs.Parses.{bare_app}

-- a command once it is built
abbrev pub shape : List Rule → Shape
shape rules = record (built bare_app).top { rules = rules }

abbrev pub whole : List Rule → App
whole rules = record { top = shape rules; subs = [] }

-- ---- the faults and the rows of the words that are left

abbrev pub end_of : List Rule → Walk → List Text → Walk
end_of rules w words = fold (walked rules []) w words

-- the faults where the walk is done, and its own faults are known
abbrev pub faults_after : List Rule → Kinds → Walk → Kinds
faults_after rules met end =
    or_else met
    (or_else (entered_fault (whole rules) end.stopped)
    (or_else (settle_fault rules false end.held)
    (or_else (defaults_fault (settled rules end.held).rows rules)
    (check_fault (shape rules) (finished rules end.held) (is_some (entered (whole rules) end.stopped))))))

abbrev pub faults_from : List Rule → Walk → List Text → Kinds
faults_from rules w words = faults_after rules (walk_fault (shape rules) [] w words) (end_of rules w words)

abbrev pub rows_from : List Rule → Walk → List Text → List Row
rows_from rules w words = finished rules (end_of rules w words).held

-- ---- what the words come to

-- with no fault the rows are good, and with a fault this holds
abbrev pub Agrees : (List Row → Type 0) → Type 0 → Kinds → List Row → Type 0
Agrees Good Bad [] rows = Good rows
Agrees Good Bad (kind ∷ more) rows = Bad

abbrev pub Reads : List Rule → (List Row → Type 0) → Type 0 → Walk → List Text → Type 0
Reads rules Good Bad w words = Agrees Good Bad (faults_from rules w words) (rows_from rules w words)

module _ (rules : List Rule) (Good : List Row → Type 0) (Bad : Type 0) where
  pub go_on : (w next : Walk) (word : Text) (more : List Text) → turn_fault (shape rules) [] w word ≡ [] → walked rules [] w word ≡ next
      → Reads rules Good Bad next more → Reads rules Good Bad w (word ∷ more)
  unfolding walk_fault
  go_on w next word more passes moves h =
      let faults : faults_from rules w (word ∷ more) ≡ faults_from rules next more =
      ap₂ (λ met m. faults_after rules (or_else met (walk_fault (shape rules) [] m more)) (end_of rules m more)) passes moves in
      let rows : rows_from rules w (word ∷ more) ≡ rows_from rules next more = ap (λ m. finished rules (end_of rules m more).held) moves in
      subst (λ f. Agrees Good Bad f (rows_from rules w (word ∷ more))) (sym faults)
      (subst (λ r. Agrees Good Bad (faults_from rules next more) r) (sym rows) h)

  pub stop : (w : Walk) (word : Text) (more : List Text) (k : ErrorKind) → turn_fault (shape rules) [] w word ≡ k ∷ [] → Bad
      → Reads rules Good Bad w (word ∷ more)
  unfolding walk_fault
  stop w word more k fails bad =
      let faults : faults_from rules w (word ∷ more) ≡ k ∷ [] =
      ap (λ met. faults_after rules (or_else met (walk_fault (shape rules) [] (walked rules [] w word) more)) (end_of rules w (word ∷ more))) fails in
      subst (λ f. Agrees Good Bad f (rows_from rules w (word ∷ more))) (sym faults) bad

  pub ends : (w : Walk) (rows : List Row) → faults_from rules w [] ≡ [] → rows_from rules w [] ≡ rows → Good rows → Reads rules Good Bad w []
  ends w rows passes are good =
      subst (λ f. Agrees Good Bad f (rows_from rules w [])) (sym passes) (subst Good (sym are) good)

  pub ends_badly : (w : Walk) (k : ErrorKind) → faults_from rules w [] ≡ k ∷ [] → Bad → Reads rules Good Bad w []
  ends_badly w k fails bad = subst (λ f. Agrees Good Bad f (rows_from rules w [])) (sym fails) bad
