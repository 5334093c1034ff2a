use Rattle.std.proofs.Common.{◌∙◌, refl, arith, length-drop}
use Rattle.batch_serving.proofs.Rooms.{read_on}
use Rattle.batch_serving.proofs.reading.read_input.Goals as goal

pub pieces-preserved : goal.pieces-preserved
pieces-preserved g c =
    let i = c.pieces.invariant in
    let r = c.in-Bytes.ensures in
    let f = c.pieces.filled in
    let old = c.pieces.bytes.items in
    let new = c.read_behind.new.bytes.items in
    let room = c.in_ok-make_room.ensures.room in
    let size = c.read_behind.new.bytes.ok.0 in
    let rest = length-drop f new in
    let front = c.read_behind.ensures.front ∙ c.in_ok-make_room.ensures.front in
    record {
      read = read_on (g.S.Source.left c.args.source.now) (g.S.Source.left c.pieces.source)
          (g.S.Source.left c.read_behind.new.source) old new f c.in-Bytes.count
          (let len = c.read_behind.ensures.len in omega (arith, room.0)) front i.read r.bytes.1;
      no_fault = r.given c.in-Bytes.count refl ∙ i.no_fault;
      filled = (let len = c.read_behind.ensures.len in let few = r.bytes.0 in omega (arith, room.0));
      within = omega (arith, c.read_behind.ensures.len, room.1);
    }
