-- Encryption and decryption of Streamlined NTRU Prime (NTRU Prime round 3, Encrypt and Decrypt), for
-- a parameter set. A polynomial is the list of its p coefficients, each its own centred residue,
-- from x^0 on.
use Rattle.std.specs.Prelude.{◌-◌, ℤ, pos, ◌-ℤ◌, if◌then◌else◌, ◌==◌, List, ◌++◌, map, replicate}
use Rattle.ring_core.specs.Product.{product, centred, weight}
use Rattle.ring_core.specs.Sets.{Set}
use Rattle.ring_inverse.specs.Reciprocals.{triple}

-- the multiple of 3 that is nearest to z: the centred residue of z modulo 3 is from -1 to 1
abbrev pub rounded : ℤ → ℤ
rounded z = z -ℤ centred 3 z

-- Encrypt(r, h): h r, rounded
abbrev pub encrypted : Set → List ℤ → List ℤ → List ℤ
encrypted set r h = map rounded (product set.q set.p h r)

-- e of Decrypt: 3 f c in R/q, centred, and then taken modulo 3
abbrev pub e_of : Set → List ℤ → List ℤ → List ℤ
e_of set c f = map (λ z. centred 3 z) (product set.q set.p (triple f) c)

-- w ones followed by zeros
abbrev pub ones : Set → List ℤ
ones set = replicate set.w (pos 1) ++ replicate (set.p - set.w) (pos 0)

-- a short polynomial as it is, and another as w ones followed by zeros
abbrev pub shortened : Set → List ℤ → List ℤ
shortened set r = (if weight r == set.w then r else ones set)

-- Decrypt(c, (f, 1/g)): e / g in R/3, where it is short
abbrev pub decrypted : Set → List ℤ → List ℤ → List ℤ → List ℤ
decrypted set c f ginv = shortened set (product 3 set.p (e_of set c f) ginv)
