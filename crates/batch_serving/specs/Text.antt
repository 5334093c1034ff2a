-- What may come of an input by a command: how the command ends, and the text that it writes.
use Rattle.std.specs.Prelude.{◌≡◌, ◌≢◌, ℕ, ◌↔◌, Bool, true, false, List, drop, Option, Result, Ok, Err}
use Rattle.field_text.specs.declared.reasons.Reason.{Reason}
use Rattle.field_text.specs.declared.faults.BadBatch.{BadBatch}
use Rattle.hpke_context.specs.Contexts.{ContextView}
use Rattle.batch_plans.specs.declared.plan.Plan.{Plan}
use Rattle.batch_plans.specs.declared.replies.KeyReply.{KeyReply}
use Rattle.batch_plans.specs.declared.replies.ContextReply.{ContextReply}
use Rattle.batch_plans.specs.ReplyText.{bad_text}
use Rattle.request_frames.specs.Batch.{batch, front_batch, BadAt, FrontBadAt}
use Rattle.context_books.specs.Runs.{run_text}
use Rattle.context_table.specs.SetUp.{IsSetUp}
use Rattle.context_table.specs.ReplyTo.{IsReply, IsLiveReply}
use Rattle.request_frames.specs.Live.{live, front_live, BadAt as BadLiveAt, FrontBadAt as FrontBadLiveAt}
use Rattle.context_core.specs.Rehearsals.{rehearsed}
use Rattle.result_lines.specs.declared.verdicts.Verdict.{Verdict}
use Rattle.result_lines.specs.declared.verdicts.Verdict.TheVariants.{Legal}
use Rattle.result_lines.specs.VerdictText.{verdict_text}
use Rattle.journal_check.specs.Verdicts.{IsVerdict, IsLiveVerdict}
use Rattle.capsule_frames.specs.Capsules.{capsules, BadAt as BadCapsulesAt}
use Rattle.capsule_frames.specs.Replies.{IsCapsuleReply}
use Rattle.demo_runs.specs.declared.report_lines.DemoReport.{DemoReport}
use Rattle.demo_runs.specs.Demo.{IsDemo, report_text}
use Rattle.batch_words.specs.declared.commands.Command.{Command}
use Rattle.batch_words.specs.declared.commands.Command.TheVariants as commands
use Rattle.batch_serving.specs.declared.outcomes.Outcome.{Outcome}
use Rattle.batch_serving.specs.declared.outcomes.Outcome.TheVariants.{Done, BadBatch as IsBad}
use Rattle.batch_serving.specs.Input.{IsInput}
use Rattle.batch_serving.specs.Outcomes.{outcome_on}

-- ---- an input that is not in the command's grammar

-- its first bad line is told
pub record IsTold (bad : BadBatch) (outcome : Outcome) (text : List ℕ) : Type 0 where
  pub outcome_is : outcome ≡ IsBad bad.line bad.reason
  pub text_is : text ≡ bad_text bad

-- ---- an input in the command's grammar

-- what it spells is answered by a text that replies to it, or its first bad line is told
abbrev pub AnswersBy : {P : Type 0} → (P → List ℕ → Type 0) → Result P BadBatch → Outcome → List ℕ
    → Type 0
AnswersBy IsReplyTo (Ok plan) outcome text = (outcome ≡ Done) × IsReplyTo plan text
AnswersBy IsReplyTo (Err bad) outcome text = IsTold bad outcome text

-- ---- `rehearse`: a batch is answered in the order of a schedule

-- The text replies to the plan's set-up, and to its calls where the lanes take their steps by this
-- schedule. A plan has one set-up, so it has one such text.
pub record IsRehearsal (schedule : List ℕ) (plan : Plan) (text : List ℕ) : Type 0 where
  pub keys : List KeyReply
  pub contexts : List ContextReply
  pub standing : List (Option ContextView)
  pub set_up : IsSetUp plan keys contexts standing
  pub text_is : text ≡ run_text keys contexts (rehearsed plan standing schedule)

-- ---- `demo`: nothing is read

-- the lines of the one report of this seed and this many messages
pub record Demonstrates (seed messages : ℕ) (outcome : Outcome) (text : List ℕ) : Type 0 where
  pub report : DemoReport
  pub is : IsDemo seed messages report
  pub outcome_is : outcome ≡ Done
  pub text_is : text ≡ report_text report

-- ---- `check` and `check --live`: a batch is read, and what stands behind it is judged

-- a batch of `run`, or one of `live`, at the front of a text, and where it ends
abbrev pub front_by : Bool → List ℕ → Result (Plan × ℕ) BadBatch
front_by false text = front_batch text
front_by true text = front_live text

-- the verdict on a result of `run`, or on one of `live`
abbrev pub IsVerdictBy : Bool → Plan → List ℕ → Verdict → Type 0
IsVerdictBy false plan result verdict = IsVerdict plan result verdict
IsVerdictBy true plan result verdict = IsLiveVerdict plan result verdict

-- a reply that `run` may give, or one that `live` may give
abbrev pub MayReply : Bool → Plan → List ℕ → Type 0
MayReply false plan result = IsReply plan result
MayReply true plan result = IsLiveReply plan result

-- it is legal exactly where it is a reply that may be given
pub record IsJudged (is_live : Bool) (plan : Plan) (result : List ℕ) (verdict : Verdict)
    : Type 0 where
  pub is : IsVerdictBy is_live plan result verdict
  pub legal : (verdict ≡ Legal) ↔ MayReply is_live plan result

-- the verdict's line
pub record TellsVerdict (is_live : Bool) (plan : Plan) (result : List ℕ) (outcome : Outcome)
    (text : List ℕ) : Type 0 where
  pub verdict : Verdict
  pub judged : IsJudged is_live plan result verdict
  pub outcome_is : outcome ≡ outcome_on verdict
  pub text_is : text ≡ verdict_text verdict

-- the input begins with a batch, and what stands behind it is broken so
pub record IsBroken (is_live : Bool) (input : List ℕ) (verdict : Verdict) : Type 0 where
  pub plan : Plan
  pub end : ℕ
  pub begins : front_by is_live input ≡ Ok (plan, end)
  pub judged : IsJudged is_live plan (drop end input) verdict
  pub broken : verdict ≢ Legal

abbrev pub Judges : Bool → Result (Plan × ℕ) BadBatch → List ℕ → Outcome → List ℕ → Type 0
Judges is_live (Ok front) input outcome text =
    TellsVerdict is_live front.0 (drop front.1 input) outcome text
Judges is_live (Err bad) input outcome text = IsTold bad outcome text

-- ---- all commands

-- a command that reads its input
abbrev pub ReadsInput : Command → Type 0
ReadsInput (commands.Demo seed messages lanes) = ⊥
ReadsInput _ = Unit {0}

-- the command's input: what was left, up to its end or to the most that is taken. `demo` takes nothing,
-- and nothing is said of its input
abbrev pub IsReadBy : Command → Option (List ℕ) → Option (List ℕ) → List ℕ → Type 0
IsReadBy (commands.Demo seed messages lanes) old new input = new ≡ old
IsReadBy _ old new input = IsInput old new input

-- The command may end so for this input, and write this text, where no fault comes in its way. `run`
-- and `live` may reply by any text that the plan may have; `rehearse` and `capsules` have one.
abbrev pub MayEnd : Command → List ℕ → Outcome → List ℕ → Type 0
MayEnd (commands.Run workers mult) input outcome text =
    AnswersBy IsReply (batch input) outcome text
MayEnd (commands.Live workers mult) input outcome text =
    AnswersBy IsLiveReply (live input) outcome text
MayEnd (commands.Rehearse schedule) input outcome text =
    AnswersBy (IsRehearsal schedule) (batch input) outcome text
MayEnd (commands.Demo seed messages lanes) input outcome text =
    Demonstrates seed messages outcome text
MayEnd (commands.Check mult) input outcome text =
    Judges false (front_batch input) input outcome text
MayEnd (commands.CheckLive mult) input outcome text =
    Judges true (front_live input) input outcome text
MayEnd (commands.Capsules mult) input outcome text =
    AnswersBy IsCapsuleReply (capsules input) outcome text

-- the first bad line and its first reason, by the command's grammar
abbrev pub IsBadFor : Command → List ℕ → ℕ → Reason → Type 0
IsBadFor (commands.Run workers mult) input line reason = BadAt input line reason
IsBadFor (commands.Live workers mult) input line reason = BadLiveAt input line reason
IsBadFor (commands.Rehearse schedule) input line reason = BadAt input line reason
IsBadFor (commands.Demo seed messages lanes) input line reason = ⊥
IsBadFor (commands.Check mult) input line reason = FrontBadAt input line reason
IsBadFor (commands.CheckLive mult) input line reason = FrontBadLiveAt input line reason
IsBadFor (commands.Capsules mult) input line reason = BadCapsulesAt input line reason

-- the command judges what stands behind a batch, and that is broken so
abbrev pub IsBrokenFor : Command → List ℕ → Verdict → Type 0
IsBrokenFor (commands.Check mult) input verdict = IsBroken false input verdict
IsBrokenFor (commands.CheckLive mult) input verdict = IsBroken true input verdict
IsBrokenFor _ input verdict = ⊥
