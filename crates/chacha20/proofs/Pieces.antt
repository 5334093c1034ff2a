-- The key stream in pieces of 16 bytes.
use Rattle.std.proofs.Common.{◌≡◌, ◌<◌, ◌≤◌, ◌+◌, ◌-◌, ◌*◌, ◌/◌, ◌%◌, ℕ, zero, suc, List, [], ◌∷◌, ◌++◌, length, take, drop, min, inl, inr, sym, ◌∙◌, ap, refl, arith, append_assoc, length-append, length-drop, drop-drop}
use Rattle.std.proofs.lemmas.List.{append-nil, take-append-drop, length-take-le, take_all, take-take, drop-take}
use Rattle.std.proofs.Math.ListN.{drop_of_length-le}
use Rattle.std.proofs.lemmas.Bool.{cases_lt}
use Rattle.std.proofs.lemmas.Simd.{length-zip2}
use Rattle.std.specs.Int.{div_ceil}
use Rattle.rand_chacha.specs.Block.{add32, double_rounds, diagonal_round}
use Rattle.byte_strings.specs.Bytes.{xor_bytes}
use Rattle.chacha20.specs.ChaCha20.{serialized, stirred, initial, block, key_stream, encrypt}
use Rattle.chacha20.specs.Lanes.{piece, piece_at, pieces, encrypt_from}
use Rattle.chacha20.proofs.XorBytes.{xor_bytes-append, xor_bytes-short}

-- a block has 64 bytes
length-serialized : (ws : List ℕ) → length (serialized ws) ≡ 4 * length ws
unfolding serialized
length-serialized [] = refl
length-serialized (w ∷ ws) = omega (arith, length-serialized ws)

length-rounds : (x : List ℕ) → length (double_rounds 10 x) ≡ 16
unfolding double_rounds diagonal_round
length-rounds x = refl

length-stirred : (x : List ℕ) → length x ≡ 16 → length (stirred x) ≡ 16
unfolding stirred
length-stirred x long =
    let same : length (double_rounds 10 x) ≡ length x = length-rounds x ∙ sym long in
    length-zip2 add32 (double_rounds 10 x) x same ∙ length-rounds x

length-initial : (key nonce : List ℕ) (counter : ℕ) → length (initial key counter nonce) ≡ 16
unfolding initial
length-initial key nonce counter = refl

pub length-block : (key nonce : List ℕ) (counter : ℕ) → length (block key counter nonce) ≡ 64
unfolding block
length-block key nonce counter =
    length-serialized (stirred (initial key counter nonce))
    ∙ ap (λ n. 4 * n) (length-stirred (initial key counter nonce) (length-initial key nonce counter))

-- four pieces are a block
pieces_of_64 : (b : List ℕ) → length b ≡ 64 → piece 0 b ++ (piece 1 b ++ (piece 2 b ++ (piece 3 b ++ []))) ≡ b
pieces_of_64 b long =
    let all : take 16 (drop 48 b) ≡ drop 48 b = take_all 16 (drop 48 b) (omega (arith, length-drop 48 b)) in
    let p3 : piece 3 b ++ [] ≡ drop 48 b = append-nil (piece 3 b) ∙ all in
    let p2 : piece 2 b ++ drop 48 b ≡ drop 32 b = ap (λ xs. piece 2 b ++ xs) (sym (drop-drop 16 32 b)) ∙ take-append-drop 16 (drop 32 b) in
    let p1 : piece 1 b ++ drop 32 b ≡ drop 16 b = ap (λ xs. piece 1 b ++ xs) (sym (drop-drop 16 16 b)) ∙ take-append-drop 16 (drop 16 b) in
    ap (λ xs. piece 0 b ++ (piece 1 b ++ (piece 2 b ++ xs))) p3
    ∙ ap (λ xs. piece 0 b ++ (piece 1 b ++ xs)) p2
    ∙ ap (λ xs. piece 0 b ++ xs) p1
    ∙ take-append-drop 16 b

piece_of : (key nonce : List ℕ) (c g i : ℕ) → g < 4 → i ≡ 4 * c + g → piece_at key nonce i ≡ piece g (block key c nonce)
unfolding piece_at
piece_of key nonce c g i small is =
    let low : i % 4 ≡ g = omega arith in
    let high : i / 4 ≡ c = omega arith in
    (λ k. piece (low k) (block key (high k) nonce))

pub pieces-block : (key nonce : List ℕ) (c n : ℕ) → pieces key nonce (4 * c) (4 + n) ≡ block key c nonce ++ pieces key nonce (4 * (c + 1)) n
unfolding pieces
pieces-block key nonce c n =
    let four : 4 + n ≡ suc (suc (suc (suc n))) = omega arith in
    let b = block key c nonce in
    let i = 4 * c in
    let later = pieces key nonce (i + 1 + 1 + 1 + 1) n in
    let next : i + 1 + 1 + 1 + 1 ≡ 4 * (c + 1) = omega arith in
    let e0 = piece_of key nonce c 0 i (omega arith) (omega arith) in
    let e1 = piece_of key nonce c 1 (i + 1) (omega arith) (omega arith) in
    let e2 = piece_of key nonce c 2 (i + 1 + 1) (omega arith) (omega arith) in
    let e3 = piece_of key nonce c 3 (i + 1 + 1 + 1) (omega arith) (omega arith) in
    ap (pieces key nonce i) four
    ∙ (λ k. e0 k ++ (e1 k ++ (e2 k ++ (e3 k ++ later))))
    ∙ sym (ap (λ xs. xs ++ later) (sym (pieces_of_64 b (length-block key nonce c)))
    ∙ simp append_assoc)
    ∙ ap (λ m. b ++ pieces key nonce m n) next

pub pieces-stream : (key nonce : List ℕ) (c n : ℕ) → pieces key nonce (4 * c) (4 * n) ≡ key_stream key c nonce n
unfolding pieces key_stream
pieces-stream key nonce c zero = refl
pieces-stream key nonce c (suc n) =
    let more : 4 * suc n ≡ 4 + 4 * n = omega arith in
    ap (pieces key nonce (4 * c)) more ∙ pieces-block key nonce c (4 * n)
    ∙ ap (λ xs. block key c nonce ++ xs) (pieces-stream key nonce (c + 1) n)

pieces-append : (key nonce : List ℕ) (i m n : ℕ) → pieces key nonce i (m + n) ≡ pieces key nonce i m ++ pieces key nonce (i + m) n
unfolding pieces
pieces-append key nonce i zero n = let e : 0 + n ≡ n = omega arith in let f : i ≡ i + 0 = omega arith in (λ k. pieces key nonce (f k) (e k))
pieces-append key nonce i (suc m) n =
    let more : suc m + n ≡ suc (m + n) = omega arith in
    let next : i + 1 + m ≡ i + suc m = omega arith in
    ap (pieces key nonce i) more
    ∙ ap (λ xs. piece_at key nonce i ++ xs) (pieces-append key nonce (i + 1) m n ∙ ap (λ k. pieces key nonce (i + 1) m ++ pieces key nonce k n) next)
    ∙ sym (append_assoc (piece_at key nonce i) (pieces key nonce (i + 1) m) (pieces key nonce (i + suc m) n))

pub length-piece_at : (key nonce : List ℕ) (i : ℕ) → length (piece_at key nonce i) ≡ 16
unfolding piece_at
length-piece_at key nonce i =
    let b = block key (i / 4) nonce in
    length-take-le 16 (drop (16 * (i % 4)) b) (omega (arith, length-drop (16 * (i % 4)) b, length-block key nonce (i / 4)))

length-pieces : (key nonce : List ℕ) (i n : ℕ) → length (pieces key nonce i n) ≡ 16 * n
unfolding pieces
length-pieces key nonce i zero = refl
length-pieces key nonce i (suc n) =
    omega (arith, length-append (piece_at key nonce i) (pieces key nonce (i + 1) n), length-piece_at key nonce i, length-pieces key nonce (i + 1) n)

-- the encryption is by pieces
pub encrypt-pieces : (key nonce : List ℕ) (c : ℕ) (text : List ℕ) → encrypt key c nonce text ≡ encrypt_from key nonce (4 * c) text
unfolding encrypt encrypt_from
encrypt-pieces key nonce c text =
    let m = div_ceil (length text) 16 in
    let b = div_ceil (length text) 64 in
    let k = 4 * b - m in
    let all : 4 * b ≡ m + k = omega arith in
    let fits : length text ≤ length (pieces key nonce (4 * c) m) = omega (arith, length-pieces key nonce (4 * c) m) in
    ap (xor_bytes text) (sym (pieces-stream key nonce c b) ∙ ap (pieces key nonce (4 * c)) all ∙ pieces-append key nonce (4 * c) m k)
    ∙ xor_bytes-short text (pieces key nonce (4 * c) m) (pieces key nonce (4 * c + m) k) fits

pub encrypt_from-none : (key nonce : List ℕ) (i : ℕ) (text : List ℕ) → length text ≡ 0 → encrypt_from key nonce i text ≡ []
unfolding encrypt_from
encrypt_from-none key nonce i [] none = refl
encrypt_from-none key nonce i (x ∷ xs) none = absurd (omega arith)

-- a sum whose second part is in two pieces
pub xor_bytes-first : (text stream later : List ℕ) (n : ℕ) → n ≡ min (length text) (length stream)
    → xor_bytes text (stream ++ later) ≡ xor_bytes (take n text) stream ++ xor_bytes (drop n text) later
xor_bytes-first text stream later n is = elim (cases_lt (length text) (length stream)) [
  | inl short ↦
      let all : length text ≤ n = omega arith in
      let fits : length text ≤ length stream = omega arith in
      let none : drop n text ≡ [] = drop_of_length-le text all in
      xor_bytes-short text stream later fits
      ∙ sym (ap (λ t. xor_bytes t stream ++ xor_bytes (drop n text) later) (take_all n text all)
      ∙ ap (λ t. xor_bytes text stream ++ xor_bytes t later) none
      ∙ append-nil (xor_bytes text stream))
  | inr long ↦
      let whole : n ≡ length stream = omega arith in
      let within : n ≤ length text = omega arith in
      ap (λ t. xor_bytes t (stream ++ later)) (sym (take-append-drop n text))
      ∙ xor_bytes-append (take n text) (drop n text) stream later (length-take-le n text within ∙ whole)
]

-- the first block of a text, and the rest; n is how many bytes the first block has
pub encrypt_from-first : (key nonce : List ℕ) (i : ℕ) (text stream : List ℕ) (n : ℕ)
    → stream ≡ piece_at key nonce i → length stream ≡ 16
    → 0 < length text → n ≡ min (length text) 16
    → encrypt_from key nonce i text ≡ xor_bytes (take n text) stream ++ encrypt_from key nonce (i + 1) (drop n text)
unfolding encrypt_from pieces
encrypt_from-first key nonce i text stream n is size more count =
    let blocks : div_ceil (length text) 16 ≡ suc (div_ceil (length (drop n text)) 16) = omega (arith, length-drop n text) in
    let later = pieces key nonce (i + 1) (div_ceil (length (drop n text)) 16) in
    ap (λ k. xor_bytes text (pieces key nonce i k)) blocks
    ∙ ap (λ s. xor_bytes text (s ++ later)) (sym is)
    ∙ xor_bytes-first text stream later n (count ∙ ap (min (length text)) (sym size))

-- the loop's step
pub encrypt-more : (key nonce : List ℕ) (i : ℕ) (text stream start front whole : List ℕ) (done n : ℕ)
    → stream ≡ piece_at key nonce i → length stream ≡ 16
    → done < length text → n ≡ min (length text - done) 16
    → start ++ encrypt_from key nonce i (drop done text) ≡ whole
    → front ≡ start ++ xor_bytes (take n (drop done text)) stream
    → front ++ encrypt_from key nonce (i + 1) (drop (done + n) text) ≡ whole
encrypt-more key nonce i text stream start front whole done n is size more count so_far next =
    let left : 0 < length (drop done text) = omega (arith, length-drop done text) in
    let rest = drop done text in
    let count' : n ≡ min (length rest) 16 = omega (arith, length-drop done text) in
    ap (λ xs. xs ++ encrypt_from key nonce (i + 1) (drop (done + n) text)) next
    ∙ append_assoc start (xor_bytes (take n rest) stream) (encrypt_from key nonce (i + 1) (drop (done + n) text))
    ∙ ap (λ xs. start ++ (xor_bytes (take n rest) stream ++ encrypt_from key nonce (i + 1) xs)) (sym (drop-drop n done text))
    ∙ ap (λ xs. start ++ xs) (sym (encrypt_from-first key nonce i rest stream n is size left count'))
    ∙ so_far

-- the step over a whole block; `next` is the place behind it
pub encrypt-block : (key nonce : List ℕ) (i : ℕ) (text stream start front whole : List ℕ) (done next : ℕ)
    → stream ≡ piece_at key nonce i → length stream ≡ 16
    → done + 16 ≤ length text → next ≡ done + 16
    → start ++ encrypt_from key nonce i (drop done text) ≡ whole
    → front ≡ start ++ xor_bytes (take 16 (drop done text)) stream
    → front ++ encrypt_from key nonce (i + 1) (drop next text) ≡ whole
encrypt-block key nonce i text stream start front whole done next is size more place so_far sum =
    ap (λ n. front ++ encrypt_from key nonce (i + 1) (drop n text)) place
    ∙ encrypt-more key nonce i text stream start front whole done 16 is size (omega arith) (omega arith) so_far sum

-- the step over piece k of a text, in its place
pub encrypt-next : (key nonce : List ℕ) (i k : ℕ) (text stream next whole : List ℕ)
    → stream ≡ piece_at key nonce (i + k) → length stream ≡ 16 → 16 * k + 16 ≤ length text
    → take (16 * k) text ++ encrypt_from key nonce (i + k) (drop (16 * k) text) ≡ whole
    → take (16 * k + 16) next ≡ take (16 * k) text ++ xor_bytes (take 16 (drop (16 * k) text)) stream
    → drop (16 * k + 16) next ≡ drop (16 * k + 16) text
    → take (16 * (k + 1)) next ++ encrypt_from key nonce (i + (k + 1)) (drop (16 * (k + 1)) next) ≡ whole
encrypt-next key nonce i k text stream next whole is size more so_far sum rest =
    let place : 16 * (k + 1) ≡ 16 * k + 16 = omega arith in
    let at : i + (k + 1) ≡ i + k + 1 = omega arith in
    let left : drop (16 * (k + 1)) next ≡ drop (16 * (k + 1)) text =
    ap (λ n. drop n next) place ∙ rest ∙ ap (λ n. drop n text) (sym place) in
    ap (λ xs. take (16 * (k + 1)) next ++ encrypt_from key nonce (i + (k + 1)) xs) left
    ∙ ap (λ m. take (16 * (k + 1)) next ++ encrypt_from key nonce m (drop (16 * (k + 1)) text)) at
    ∙ encrypt-block key nonce (i + k) text stream (take (16 * k) text) (take (16 * (k + 1)) next) whole (16 * k) (16 * (k + 1)) is size more place so_far
    (ap (λ n. take n next) place ∙ sum)

-- the last block of a text, which may be cut
pub encrypt_from-rest : (key nonce : List ℕ) (i : ℕ) (text stream : List ℕ)
    → stream ≡ piece_at key nonce i → length stream ≡ 16 → 0 < length text → length text ≤ 16
    → encrypt_from key nonce i text ≡ xor_bytes text stream
encrypt_from-rest key nonce i text stream is size some short =
    let n = length text in
    let count : n ≡ min n 16 = omega arith in
    let none : length (drop n text) ≡ 0 = omega (arith, length-drop n text) in
    encrypt_from-first key nonce i text stream n is size some count
    ∙ ap (λ xs. xor_bytes (take n text) stream ++ xs) (encrypt_from-none key nonce (i + 1) (drop n text) none)
    ∙ append-nil (xor_bytes (take n text) stream)
    ∙ ap (λ xs. xor_bytes xs stream) (take_all n text (omega arith))

-- piece j of the group of piece i
pub group_piece : (key nonce : List ℕ) (i j m : ℕ) → j < 16 → m ≡ i / 16 * 16 + j
    → piece (j % 4) (block key (i / 16 * 4 + j / 4) nonce) ≡ piece_at key nonce m
group_piece key nonce i j m small is =
    sym (piece_of key nonce (i / 16 * 4 + j / 4) (j % 4) m (omega arith) (omega (arith, is)))

-- the first 32 bytes of a block, from two pieces
pub first_bytes : (b x y : List ℕ) → length b ≡ 64 → x ≡ piece 0 b → y ≡ piece 1 b → x ++ y ≡ take 32 b
first_bytes b x y long e0 e1 =
    (λ i. e0 i ++ e1 i)
    ∙ ap (λ xs. xs ++ take 16 (drop 16 b)) (sym (take-take 16 32 b (omega arith)))
    ∙ ap (λ xs. take 16 (take 32 b) ++ xs) (sym (drop-take 16 16 b))
    ∙ take-append-drop 16 (take 32 b)

pub first_of_block : (key nonce : List ℕ) (c : ℕ) (x y : List ℕ) → x ≡ piece_at key nonce (4 * c) → y ≡ piece_at key nonce (4 * c + 1)
    → x ++ y ≡ take 32 (block key c nonce)
first_of_block key nonce c x y e0 e1 =
    first_bytes (block key c nonce) x y (length-block key nonce c)
    (e0 ∙ piece_of key nonce c 0 (4 * c) (omega arith) (omega arith))
    (e1 ∙ piece_of key nonce c 1 (4 * c + 1) (omega arith) (omega arith))
