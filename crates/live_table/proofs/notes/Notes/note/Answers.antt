use Rattle.std.proofs.Common.{◌≡◌, ◌<◌, Bool, false, length, sym, subst, arith}
use Rattle.std.specs.Prelude.{slice_index, slice_index_or}
use Rattle.call_places.specs.Entries.{own}
use Rattle.live_table.specs.Notes.{NotesView}
use Rattle.live_table.proofs.Noting.{noted}
use Rattle.live_table.proofs.notes.Notes.note.Goals as goal

pub invariant_of-self : goal.invariant_of-self
invariant_of-self c =
    let was = sym c.self.view_is in
    let lane = c.args.place.lane in
    let told : Bool = slice_index_or c.self.inside.live c.args.name false in
    let tells = c.self.invariant.live_is c.args.name c.requires.name in
    let size : length c.self.inside.live ≡ 256 = omega arith in
    noted _ c.self.inside.entries.items _ _ _ c.self.inside.live c.after.result c.self.inside.seat c.draw_stamps-stamp.new.own
    c.args.counter.now.id c.args.place c.draw_stamps-stamp.result.0 c.args.name c.args.act told c.self.invariant
    (subst (λ (v : NotesView). lane < length v.quotas) was c.requires.lane)
    (subst (λ (v : NotesView). length (own lane v.entries) < slice_index v.quotas lane) was c.requires.room)
    size c.requires.name tells
    (c.after.ensures c.self.inside.entries.items c.args.place c.draw_stamps-stamp.result.0 c.args.name told tells)
    c.draw_stamps-stamp.ensures.least c.draw_stamps-stamp.ensures.own c.push_reserved.ensures.items c.push_reserved.ensures.capacity
