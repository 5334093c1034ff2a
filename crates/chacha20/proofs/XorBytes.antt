-- Sums of byte strings.
use Rattle.std.proofs.Common.{◌≡◌, ◌<◌, ◌≤◌, ◌+◌, ◌-◌, ℕ, zero, suc, List, [], ◌∷◌, ◌++◌, length, take, drop, get_or, set, bit_xor, sym, ◌∙◌, ap, refl, arith, add-one, append_assoc, length-drop, drop-drop, get_or-drop}
use Rattle.std.proofs.lemmas.List.{take_more_set, drop-set-lt, take_at, drop_at, append-nil}
use Rattle.std.specs.Int.Bits.{xor_assoc, xor_self, xor_zero_r}
use Rattle.std.proofs.Math.Seq.{drop-length}
use lib.Lanes.{put_chunk}
use borrow.Rule.Slice.PartMut.{put_mid, post_of}
use Rattle.byte_strings.specs.Bytes.{xor_bytes}

drop-whole : (zs : List ℕ) (k : ℕ) → length zs ≡ k → drop k zs ≡ []
drop-whole zs k e = ap (λ n. drop n zs) (sym e) ∙ drop-length zs

-- a block whose parts were written one after the other
pub put_mid_end : (xs ys zs : List ℕ) (n k : ℕ) → length xs ≡ n → length zs ≡ k → put_mid n k (xs ++ zs) ys ≡ xs ++ ys
put_mid_end xs ys zs n k long end =
    let gone : post_of n k (xs ++ zs) ≡ [] = ap (drop k) (drop_at xs zs n long) ∙ drop-whole zs k end in
    ap (λ front. front ++ (ys ++ post_of n k (xs ++ zs))) (take_at xs zs n long)
    ∙ ap (λ back. xs ++ (ys ++ back)) gone ∙ ap (λ zs. xs ++ zs) (append-nil ys)

-- what stands behind a vector that was written
pub drop-put_chunk : (i n : ℕ) (xs ys : List ℕ) → n ≡ i + length ys → drop n (put_chunk i xs ys) ≡ drop n xs
drop-put_chunk zero n [] ys end = refl
drop-put_chunk zero n (x ∷ xs) [] end = refl
drop-put_chunk zero zero (x ∷ xs) (y ∷ ys) end = absurd (omega (arith, end))
drop-put_chunk zero (suc n) (x ∷ xs) (y ∷ ys) end =
    let end' : n ≡ 0 + length ys = omega (arith, end) in
    drop-put_chunk zero n xs ys end'
drop-put_chunk (suc i) n [] ys end = refl
drop-put_chunk (suc i) zero (x ∷ xs) ys end = absurd (omega (arith, end))
drop-put_chunk (suc i) (suc n) (x ∷ xs) ys end =
    let end' : n ≡ i + length ys = omega (arith, end) in
    drop-put_chunk i n xs ys end'

-- one more byte of a sum
pub xor_bytes-suc : (xs ys : List ℕ) (i : ℕ) → i < length xs → i < length ys
    → xor_bytes (take (suc i) xs) ys ≡ xor_bytes (take i xs) ys ++ bit_xor (get_or xs i 0) (get_or ys i 0) ∷ []
xor_bytes-suc [] ys i p q = absurd (omega arith)
xor_bytes-suc (x ∷ xs) [] i p q = absurd (omega arith)
xor_bytes-suc (x ∷ xs) (y ∷ ys) zero p q = refl
xor_bytes-suc (x ∷ xs) (y ∷ ys) (suc i) p q =
    let p' : i < length xs = omega arith in
    let q' : i < length ys = omega arith in
    ap (λ zs. bit_xor x y ∷ zs) (xor_bytes-suc xs ys i p' q')

-- the element at which two lists begin to be equal
same_at : (xs ys : List ℕ) (n : ℕ) → drop n xs ≡ drop n ys → get_or xs n 0 ≡ get_or ys n 0
same_at xs ys n same =
    let at : n ≡ n + 0 = omega arith in
    ap (λ m. get_or xs m 0) at ∙ sym (get_or-drop n xs 0 0) ∙ ap (λ zs. get_or zs 0 0) same ∙ get_or-drop n ys 0 0
    ∙ ap (λ m. get_or ys m 0) (sym at)

-- The loop that adds a stream to what follows `at` in a text, byte by byte: the text with i bytes added is `now`.
pub sum_more : (start now text stream : List ℕ) (at i : ℕ) → i < length text - at → length now ≡ length text
    → at ≤ length text → i < length stream → drop (at + i) now ≡ drop (at + i) text
    → take (at + i) now ≡ start ++ xor_bytes (take i (drop at text)) stream
    → take (at + (i + 1)) (set now (at + i) (bit_xor (get_or now (at + i) 0) (get_or stream i 0)))
    ≡ start ++ xor_bytes (take (i + 1) (drop at text)) stream
sum_more start now text stream at i more same low within left so_far =
    let next : at + (i + 1) ≡ at + i + 1 = omega arith in
    let room : at + i < length now = omega arith in
    let rest : i < length (drop at text) = omega (arith, length-drop at text) in
    let byte = bit_xor (get_or now (at + i) 0) (get_or stream i 0) in
    ap (λ n. take n (set now (at + i) byte)) next
    ∙ take_more_set now (at + i) byte room
    ∙ ap (λ xs. xs ++ byte ∷ []) so_far
    ∙ append_assoc start (xor_bytes (take i (drop at text)) stream) (byte ∷ [])
    ∙ ap (λ xs. start ++ xs)
    (ap (λ b. xor_bytes (take i (drop at text)) stream ++ bit_xor b (get_or stream i 0) ∷ [])
    (same_at now text (at + i) left ∙ sym (get_or-drop at text i 0))
    ∙ sym (xor_bytes-suc (drop at text) stream i rest within)
    ∙ ap (λ n. xor_bytes (take n (drop at text)) stream) (sym (add-one i)))

-- what that loop has left to do
pub left_more : (now text : List ℕ) (at i byte : ℕ) → drop (at + i) now ≡ drop (at + i) text
    → drop (at + (i + 1)) (set now (at + i) byte) ≡ drop (at + (i + 1)) text
left_more now text at i byte left =
    let next : at + (i + 1) ≡ at + i + 1 = omega arith in
    drop-set-lt (at + (i + 1)) now (at + i) byte (omega arith)
    ∙ ap (λ n. drop n now) next ∙ sym (drop-drop 1 (at + i) now) ∙ ap (drop 1) left ∙ drop-drop 1 (at + i) text
    ∙ ap (λ n. drop n text) (sym next)

-- adding twice gives the text back
pub xor_twice : (a b : ℕ) → bit_xor (bit_xor a b) b ≡ a
xor_twice a b = xor_assoc a b b ∙ ap (bit_xor a) (xor_self b) ∙ xor_zero_r a

pub xor_bytes-twice : (xs ys : List ℕ) → length xs ≤ length ys → xor_bytes (xor_bytes xs ys) ys ≡ xs
xor_bytes-twice [] ys long = refl
xor_bytes-twice (x ∷ xs) [] long = absurd (omega arith)
xor_bytes-twice (x ∷ xs) (y ∷ ys) long =
    let long' : length xs ≤ length ys = omega arith in
    ap (λ z. z ∷ xor_bytes (xor_bytes xs ys) ys) (xor_twice x y) ∙ ap (λ zs. x ∷ zs) (xor_bytes-twice xs ys long')

pub length-xor_bytes : (xs ys : List ℕ) → length xs ≤ length ys → length (xor_bytes xs ys) ≡ length xs
length-xor_bytes [] ys long = refl
length-xor_bytes (x ∷ xs) [] long = absurd (omega arith)
length-xor_bytes (x ∷ xs) (y ∷ ys) long =
    let long' : length xs ≤ length ys = omega arith in
    ap suc (length-xor_bytes xs ys long')

-- a sum in two parts
pub xor_bytes-append : (ws xs ys zs : List ℕ) → length ws ≡ length ys
    → xor_bytes (ws ++ xs) (ys ++ zs) ≡ xor_bytes ws ys ++ xor_bytes xs zs
xor_bytes-append [] xs [] zs same = refl
xor_bytes-append [] xs (y ∷ ys) zs same = absurd (omega arith)
xor_bytes-append (w ∷ ws) xs [] zs same = absurd (omega arith)
xor_bytes-append (w ∷ ws) xs (y ∷ ys) zs same =
    let same' : length ws ≡ length ys = omega arith in
    ap (λ us. bit_xor w y ∷ us) (xor_bytes-append ws xs ys zs same')

pub xor_bytes-short : (xs ys zs : List ℕ) → length xs ≤ length ys → xor_bytes xs (ys ++ zs) ≡ xor_bytes xs ys
xor_bytes-short [] ys zs long = refl
xor_bytes-short (x ∷ xs) [] zs long = absurd (omega arith)
xor_bytes-short (x ∷ xs) (y ∷ ys) zs long =
    let long' : length xs ≤ length ys = omega arith in
    ap (λ us. bit_xor x y ∷ us) (xor_bytes-short xs ys zs long')
