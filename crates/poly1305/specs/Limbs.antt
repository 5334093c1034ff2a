-- What a contract sees of a tag that is being computed.
use Rattle.std.specs.Prelude.{◌≡◌, ◌<◌, ℕ, ◌+◌, ◌*◌, ◌%◌, ◌^◌, List, [], ◌∷◌, length}
use Rattle.poly1305.specs.Poly1305.{prime, blocks, polynomial}
use Rattle.poly1305.specs.declared.limbs.Sum.{Sum}
use Rattle.poly1305.specs.declared.limbs.Factor.{Factor}

-- the two parts of a key, and the sum so far
pub record Tagging : Type 0 where
  pub r : ℕ
  pub s : ℕ
  pub sum : ℕ

-- these bytes, a whole number of blocks, were taken
pub record Took (t : Tagging) (bytes : List ℕ) : Type 0 where
  pub whole : length bytes % 16 ≡ 0
  pub sum : t.sum % prime ≡ polynomial t.r (blocks bytes) % prime

-- ---- for the proofs

-- the RFC's steps: from the sum a, (a + c) r for each block
unfoldable pub sum_after : ℕ → ℕ → List ℕ → ℕ
sum_after r a [] = a
sum_after r a (c ∷ cs) = sum_after r ((a + c) * r) cs

-- the number of a sum
abbrev pub value : Sum → ℕ
value a = a.low + a.high * 2 ^ 128

-- the number of a factor
abbrev pub factor : Factor → ℕ
factor r = r.low + r.high * 2 ^ 64

-- a factor whose number is clamped
pub record IsClamped (r : Factor) : Type 0 where
  pub low : r.low < 2 ^ 60
  pub high : r.high < 2 ^ 60
  pub folded : 4 * r.folded ≡ 5 * r.high
