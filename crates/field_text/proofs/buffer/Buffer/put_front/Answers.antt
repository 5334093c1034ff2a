use Rattle.std.proofs.Common.{refl, arith, Result, Ok, Err}
use Rattle.std.specs.Result.{IsOk, OnOk}
use Rattle.std.proofs.lemmas.List.{length-take}
use Rattle.field_text.proofs.Held.{Puts-added}
use Rattle.field_text.proofs.buffer.Buffer.put_front.Goals as goal

on_ok : {T E P : Type 0} (r : Result T E) → IsOk r → OnOk r P → P
on_ok (Ok x) is p = p
on_ok (Err e) is p = absurd cc

pub returns-clause-text : goal.returns-clause-text
returns-clause-text g c =
    let fits : IsOk c.try_extend_from_slice.result =
    c.try_extend_from_slice.ensures.variant.1 (omega (arith, length-take c.min-count.result c.args.piece.now)) in
    Puts-added c.make_room.ensures.text refl (on_ok c.try_extend_from_slice.result fits c.try_extend_from_slice.ensures.ok)
