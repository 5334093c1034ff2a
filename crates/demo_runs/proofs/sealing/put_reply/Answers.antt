use Rattle.std.proofs.Common.{◌≡◌, ℕ, ◌<◌, List, length, slice_set, ap, sym, ◌∙◌, arith}
use Rattle.demo_runs.specs.Demo.{sealed_at}
use Rattle.demo_runs.proofs.Puts.{sealed_told}
use Rattle.demo_runs.proofs.sealing.put_reply.Goals as goal

pub offset_bounds-cts-number : goal.offset_bounds-cts-number
offset_bounds-cts-number c =
    let r = c.requires.sealed in
    let few = c.requires.few in
    let told = sealed_told r.context r.number c.in-Sealed.number c.args.pool.now c.of-bytes.result.now c.in-Sealed.text c.args.reply.now
    c.in-Sealed.is c.of-bytes.ensures c.see_bytes.ensures (omega arith) (let low = r.low in omega arith) r.line in
    let number : c.in-Sealed.number ≡ r.number = told.0 in
    let low : r.number < length c.args.cts.now = r.low in
    record { fits = omega arith }

pub bounds-cts-number : goal.bounds-cts-number
bounds-cts-number c =
    let r = c.requires.sealed in
    let few = c.requires.few in
    let told = sealed_told r.context r.number c.in-Sealed.number c.args.pool.now c.of-bytes.result.now c.in-Sealed.text c.args.reply.now
    c.in-Sealed.is c.of-bytes.ensures c.see_bytes.ensures (omega arith) (let low = r.low in omega arith) r.line in
    let number : c.in-Sealed.number ≡ r.number = told.0 in
    let low : r.number < length c.args.cts.now = r.low in
    omega arith

pub copy_from_slice-requires : goal.copy_from_slice-requires
copy_from_slice-requires c =
    let r = c.requires.sealed in
    let few = c.requires.few in
    let told = sealed_told r.context r.number c.in-Sealed.number c.args.pool.now c.of-bytes.result.now c.in-Sealed.text c.args.reply.now
    c.in-Sealed.is c.of-bytes.ensures c.see_bytes.ensures (omega arith) (let low = r.low in omega arith) r.line in
    let number : c.in-Sealed.number ≡ r.number = told.0 in
    let low : r.number < length c.args.cts.now = r.low in
    c.told-cts c.in-Sealed.number (omega arith) ∙ sym (ap (λ (bytes : List ℕ). length bytes) told.1 ∙ r.size)

pub returns-in-Sealed-clause-put : goal.returns-in-Sealed-clause-put
returns-in-Sealed-clause-put c = λ context n small e.
    let told = sealed_told context n c.in-Sealed.number c.args.pool.now c.of-bytes.result.now c.in-Sealed.text c.args.reply.now
    c.in-Sealed.is c.of-bytes.ensures c.see_bytes.ensures (omega arith) small e in
    ap (λ (bytes : List ℕ). slice_set c.args.cts.now c.in-Sealed.number bytes) (c.copy_from_slice.ensures.after ∙ told.1)
    ∙ ap (λ (k : ℕ). slice_set c.args.cts.now k (sealed_at context n)) told.0
