-- The text of what may be told of lanes that add and retire contexts has its table, and is read back.
use Rattle.std.proofs.Common.{List, [], ◌∷◌, ℕ, Option}
use Rattle.std.specs.List.{All}
use Rattle.std.proofs.lemmas.List.Elements.{All-nil, All-cons, All-head, All-tail}
use Rattle.call_places.specs.declared.entries.Entry.{Entry}
use Rattle.call_places.specs.declared.entries.Mark.{Mark}
use Rattle.call_places.specs.Orders.{StampsRise}
use Rattle.hpke_context.specs.Contexts.{ContextView}
use Rattle.batch_plans.specs.declared.plan.Plan.{Plan}
use Rattle.batch_plans.specs.declared.replies.Batch.{Batch}
use Rattle.batch_plans.specs.declared.replies.KeyReply.{KeyReply}
use Rattle.batch_plans.specs.declared.replies.ContextReply.{ContextReply}
use Rattle.context_books.specs.Live.{looked_up_plan}
use Rattle.result_lines.specs.declared.stamps.Stamps.TheVariants.{PlacesAndNotes}
use Rattle.result_lines.specs.Printed.{AreComplete, IsLine, IsGuessWithin, IsPlaceWithin}
use Rattle.result_lines.specs.PrintedLive.{IsReply, IsNoteWithin, IsLiveReadBack}
use Rattle.result_lines.proofs.GaveLive.{told_live_back}
use Rattle.result_lines.proofs.TableText.{table_back}

reply_lines : (lines : List (List ℕ)) → All IsReply lines → All IsLine lines
reply_lines [] all = All-nil IsLine
reply_lines (line ∷ lines) all =
    All-cons IsLine line lines (All-head IsReply line lines all).one (reply_lines lines (All-tail IsReply line lines all))

pub live_back : (plan : Plan) (keys : List KeyReply) (replies : List ContextReply) (contexts : List (Option ContextView)) (lines : List (List ℕ)) (guesses : List (List Batch))
    (journals : List (List Mark)) (notes : List Entry) → AreComplete (looked_up_plan plan notes) contexts lines guesses journals → All IsReply lines → All (All IsGuessWithin) guesses
    → All (All (IsPlaceWithin PlacesAndNotes)) journals → All (IsNoteWithin plan contexts) notes → StampsRise notes
    → IsLiveReadBack plan keys replies contexts lines guesses journals notes
live_back plan keys replies contexts lines guesses journals notes complete all within marks noted rise =
    let back = told_live_back plan keys replies contexts lines guesses journals notes complete (reply_lines lines all) within marks in
    record {
      table_is = table_back plan keys replies contexts lines guesses journals notes all within marks noted rise;
      told = back.told;
      is = back.is;
      lines_are = back.lines_are;
      guesses_are = back.guesses_are;
      journals_are = back.journals_are;
    }
