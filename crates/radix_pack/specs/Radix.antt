-- Digits below given radices as bytes, level by level (NTRU Prime round 3, Encode and Decode).
--
-- A byte string is a list of numbers below 256. A digit is a value and its radix, which is from 1 to
-- 16383 and above the value. A level makes one digit of two neighbours, as the two digits of one
-- number, and writes low bytes of it until its radix is at most 16383 again. All bytes of a level
-- stand before those of the next. Of the last digit all bytes are written.
use Rattle.std.specs.Prelude.{◌≡◌, ℕ, zero, suc, ◌+◌, ◌*◌, ◌/◌, ◌%◌, ◌^◌, ◌<◌, ◌≤◌, cond, List, [], ◌∷◌, ◌++◌, length, take, drop, ltb, EachIndex, slice_index}
use Rattle.radix_pack.specs.declared.levels.Digit.{Digit}

-- `while m >= limit`, a low byte is written, and m becomes m / 256, rounded up: how many bytes that
-- writes in at most so many turns
abbrev pub bytes_in : ℕ → ℕ → ℕ → ℕ
bytes_in zero limit m = 0
bytes_in (suc turns) limit m = cond (ltb m limit) 0 (suc (bytes_in turns limit ((m + 255) / 256)))

-- what that leaves of the radix m
abbrev pub radix_in : ℕ → ℕ → ℕ → ℕ
radix_in zero limit m = m
radix_in (suc turns) limit m = cond (ltb m limit) m (radix_in turns limit ((m + 255) / 256))

-- the bytes that a pair of neighbours with radices m and n writes, and the radix that goes on to
-- the next level; two turns end the loop, as the law `two_turns_are_enough` says
unfoldable pub pair_bytes : ℕ → ℕ → ℕ
pair_bytes m n = bytes_in 2 16384 (m * n)

unfoldable pub pair_radix : ℕ → ℕ → ℕ
pair_radix m n = radix_in 2 16384 (m * n)

-- the bytes of the last digit, which go on `while m > 1`
unfoldable pub last_bytes : ℕ → ℕ
last_bytes m = bytes_in 2 2 m

-- the low `count` bytes of a number, low byte first
abbrev pub low_bytes : ℕ → ℕ → List ℕ
low_bytes zero r = []
low_bytes (suc count) r = r % 256 ∷ low_bytes count (r / 256)

-- the number above its low `count` bytes
abbrev pub above_bytes : ℕ → ℕ → ℕ
above_bytes zero r = r
above_bytes (suc count) r = above_bytes count (r / 256)

-- the number of a byte string, low byte first
abbrev pub number : List ℕ → ℕ
number [] = 0
number (byte ∷ bytes) = byte + 256 * number bytes

-- ---- Encode

-- a pair of neighbours as one number
abbrev pub joined : Digit → Digit → ℕ
joined x y = x.value + y.value * x.radix

-- the bytes that it writes
abbrev pub pair_written : Digit → Digit → List ℕ
pair_written x y = low_bytes (pair_bytes x.radix y.radix) (joined x y)

-- the digit that it becomes
abbrev pub pair_digit : Digit → Digit → Digit
pair_digit x y = record {
  value = above_bytes (pair_bytes x.radix y.radix) (joined x y);
  radix = pair_radix x.radix y.radix;
}

-- the bytes that a level writes
abbrev pub level_bytes : List Digit → List ℕ
level_bytes [] = []
level_bytes (x ∷ []) = []
level_bytes (x ∷ y ∷ rest) = pair_written x y ++ level_bytes rest

-- the digits that go on to the next level; an odd last one goes on as it is
abbrev pub next_digits : List Digit → List Digit
next_digits [] = []
next_digits (x ∷ []) = x ∷ []
next_digits (x ∷ y ∷ rest) = pair_digit x y ∷ next_digits rest

-- the bytes of this level and of those after it, of which there are at most `levels`
abbrev pub encode_in : ℕ → List Digit → List ℕ
encode_in zero xs = []
encode_in (suc levels) [] = []
encode_in (suc levels) (x ∷ []) = low_bytes (last_bytes x.radix) x.value
encode_in (suc levels) (x ∷ y ∷ rest) = level_bytes (x ∷ y ∷ rest) ++ encode_in levels (next_digits (x ∷ y ∷ rest))

-- values with their radices
abbrev pub with_radices : List ℕ → List ℕ → List Digit
with_radices [] ms = []
with_radices (r ∷ rs) [] = []
with_radices (r ∷ rs) (m ∷ ms) = record { value = r; radix = m } ∷ with_radices rs ms

-- Encode(R, M)
unfoldable pub encode : List ℕ → List ℕ → List ℕ
encode values radices = encode_in (length radices) (with_radices values radices)

-- ---- Decode

-- how many bytes a level with these radices writes
abbrev pub level_count : List ℕ → ℕ
level_count [] = 0
level_count (m ∷ []) = 0
level_count (m ∷ n ∷ rest) = pair_bytes m n + level_count rest

-- the radices of the next level
abbrev pub next_radices : List ℕ → List ℕ
next_radices [] = []
next_radices (m ∷ []) = m ∷ []
next_radices (m ∷ n ∷ rest) = pair_radix m n ∷ next_radices rest

-- how many bytes this level and those after it write
abbrev pub length_in : ℕ → List ℕ → ℕ
length_in zero ms = 0
length_in (suc levels) [] = 0
length_in (suc levels) (m ∷ []) = last_bytes m
length_in (suc levels) (m ∷ n ∷ rest) = level_count (m ∷ n ∷ rest) + length_in levels (next_radices (m ∷ n ∷ rest))

-- the length of Encode(R, M), in bytes, which the radices M alone settle
unfoldable pub encoded_length : List ℕ → ℕ
encoded_length radices = length_in (length radices) radices

-- the number of a pair, from its bytes and the value that the next level gives
abbrev pub whole : ℕ → List ℕ → ℕ → ℕ
whole count bytes above = number (take count bytes) + 256 ^ count * above

-- the values of a level with these radices, from its bytes and the values of the next level
abbrev pub parted : List ℕ → List ℕ → List ℕ → List ℕ
parted [] bytes above = []
parted (m ∷ ms) bytes [] = []
parted (m ∷ []) bytes (r ∷ above) = r ∷ []
parted (m ∷ n ∷ rest) bytes (r ∷ above) =
    let count = pair_bytes m n in
    whole count bytes r % m ∷ whole count bytes r / m % n ∷ parted rest (drop count bytes) above

abbrev pub decode_in : ℕ → List ℕ → List ℕ → List ℕ
decode_in zero ms bytes = []
decode_in (suc levels) [] bytes = []
decode_in (suc levels) (m ∷ []) bytes = number bytes % m ∷ []
decode_in (suc levels) (m ∷ n ∷ rest) bytes =
    let count = level_count (m ∷ n ∷ rest) in
    parted (m ∷ n ∷ rest) (take count bytes) (decode_in levels (next_radices (m ∷ n ∷ rest)) (drop count bytes))

-- Decode(S, M)
unfoldable pub decode : List ℕ → List ℕ → List ℕ
decode bytes radices = decode_in (length radices) radices bytes

-- ---- what Encode and Decode are for

-- each radix is from 1 to 16383
abbrev pub AreRadices : List ℕ → Type 0
AreRadices radices = EachIndex radices (λ k. (1 ≤ slice_index radices k) × (slice_index radices k < 16384))

-- as many values as radices, each below its radix
abbrev pub AreBelow : List ℕ → List ℕ → Type 0
AreBelow values radices =
    (length values ≡ length radices) × EachIndex radices (λ k. slice_index values k < slice_index radices k)

-- ---- for the proofs

-- each value is below its radix, which is below 16384
abbrev pub AreDigits : List Digit → Type 0
AreDigits [] = Unit {0}
AreDigits (x ∷ xs) = (x.value < x.radix) × (x.radix < 16384) × AreDigits xs
