use Rattle.std.proofs.Common.{◌≡◌, ◌∙◌, ℕ, List, bit_xor, bit_and, [], ap, sym, subst, refl}
use Rattle.std.specs.Simd.Lanes.{zip2}
use Rattle.aes_block.specs.Circuit.{circuit}
use Rattle.aes_block.specs.Sliced.{gathered, IsState}
use Rattle.aes_block.proofs.Circuit.{circuit_is_s_box, circuit_long}
use Rattle.aes_block.proofs.gates.sub_bytes.Goals as goal

is : goal.returns-clause-long
unfolding circuit
is c =
    let e : c.last_sums.result ≡ circuit [] (zip2 bit_xor) (zip2 bit_and) c.args.q = rw (c.last_sums.ensures, c.inner_products.ensures, c.inner_inverse-t.ensures, c.inner_sums.ensures, c.outer_sums-y.ensures) refl in
    subst IsState (sym e) (circuit_long c.args.q c.requires)

pub returns-clause-long : goal.returns-clause-long
returns-clause-long c = is c

pub returns-clause-bytes : goal.returns-clause-bytes
unfolding circuit
returns-clause-bytes c p i P I =
    let e : c.last_sums.result ≡ circuit [] (zip2 bit_xor) (zip2 bit_and) c.args.q = rw (c.last_sums.ensures, c.inner_products.ensures, c.inner_inverse-t.ensures, c.inner_sums.ensures, c.outer_sums-y.ensures) refl in
    ap (λ (q : List (List ℕ)). gathered q p i) e ∙ circuit_is_s_box c.args.q c.requires p i P I
