use Rattle.std.proofs.Common.{refl}
use Rattle.request_frames.proofs.draft.BatchDraft.finish.Goals as goal

pub returns : goal.returns
returns c = record {
  plan =
      rw (
        c.from_vec.ensures.items,
        c.from_vec-2.ensures.items,
        c.from_vec-3.ensures.items,
        c.from_vec-4.ensures.items,
        c.from_vec-5.ensures.items,
        c.in_ok-lanes.ensures,
      ) refl;
}
