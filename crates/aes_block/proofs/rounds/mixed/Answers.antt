use Rattle.std.proofs.Common.{◌<◌, arith, refl}
use Rattle.aes_block.specs.Sliced.{next_place, half_place}
use Rattle.aes_block.proofs.States.{moved_long, moved_bytes, added_long_of, added_bytes}
use Rattle.aes_block.proofs.rounds.mixed.Goals as goal

pub doubled-requires : goal.doubled-requires
doubled-requires c = added_long_of c.args.r c.turned_of-n.result _ c.requires (moved_long next_place c.args.r _ c.turned_of-n.ensures) c.added-m.ensures

pub halved_of-requires : goal.halved_of-requires
halved_of-requires c = added_long_of c.args.r c.turned_of-n.result _ c.requires (moved_long next_place c.args.r _ c.turned_of-n.ensures) c.added-m.ensures

pub returns-clause-long : goal.returns-clause-long
returns-clause-long c =
    let n = moved_long next_place c.args.r c.turned_of-n.result c.turned_of-n.ensures in
    let h = moved_long half_place c.added-m.result c.halved_of.result c.halved_of.ensures in
    let t = added_long_of c.doubled.result c.turned_of-n.result c.added.result c.doubled.ensures.long n c.added.ensures in
    added_long_of c.added.result c.halved_of.result c.added-2.result t h c.added-2.ensures

pub returns-clause-bytes : goal.returns-clause-bytes
returns-clause-bytes c p i P I =
    let nl = moved_long next_place c.args.r c.turned_of-n.result c.turned_of-n.ensures in
    let hl = moved_long half_place c.added-m.result c.halved_of.result c.halved_of.ensures in
    let tl = added_long_of c.doubled.result c.turned_of-n.result c.added.result c.doubled.ensures.long nl c.added.ensures in
    let Q = half_place p in
    let H : half_place p < 16 = omega arith in
    let u = added_bytes c.added.result c.halved_of.result c.added-2.result tl hl c.added-2.ensures p i P in
    let t = added_bytes c.doubled.result c.turned_of-n.result c.added.result c.doubled.ensures.long nl c.added.ensures p i P in
    let d = c.doubled.ensures.bytes p i P I in
    let m = added_bytes c.args.r c.turned_of-n.result c.added-m.result c.requires nl c.added-m.ensures p i P in
    let n = moved_bytes next_place c.args.r c.turned_of-n.result c.turned_of-n.ensures p i P in
    let h = moved_bytes half_place c.added-m.result c.halved_of.result c.halved_of.ensures p i P in
    let mh = added_bytes c.args.r c.turned_of-n.result c.added-m.result c.requires nl c.added-m.ensures (half_place p) i H in
    let nh = moved_bytes next_place c.args.r c.turned_of-n.result c.turned_of-n.ensures (half_place p) i H in
    rw (u, t, d, m, n, h, mh, nh) refl
