use Rattle.std.proofs.Common.{refl, sym, ap, ◌∙◌, arith}
use Rattle.std.specs.Prelude.{slice_set}
use Rattle.std.proofs.lemmas.List.{set-set}
use Rattle.lane_workers.proofs.Found.{is_there}
use Rattle.lane_workers.proofs.Taking.{pass_taken}
use Rattle.lane_workers.proofs.calls.Service.look.Goals as goal

pub unwrap-pass-requires : goal.unwrap-pass-requires
unwrap-pass-requires g c =
    is_there (pass_taken c.requires.turn.1 c.index_mut.ensures.value c.take.ensures.value)

pub returns : goal.returns
returns g c = λ line.
    let t = c.requires.turn.1 in
    let after = c.peek-due.result.1 in
    let peeked = c.peek-due.ensures in
    record {
      pass = c.unwrap-pass.result;
      was = t.holds ∙ sym (pass_taken t c.index_mut.ensures.value c.take.ensures.value)
          ∙ c.unwrap-pass.ensures;
      after = after;
      has_guessed = record {
        after = record {
          lock = peeked.after.lock;
          number = peeked.after.number;
          turns = (let turns = peeked.after.turns in omega arith);
        };
        next_call = peeked.next_call;
        others = peeked.others;
        due = λ keeps. peeked.due;
      };
      passes = set-set _ _ _ _
          ∙ ap (slice_set c.args.work.now.passes.items c.args.number) c.put.ensures;
      seat = refl;
      same = record { lane = refl; table = refl; progress = refl };
      steps = refl;
      checks = refl;
    }
