-- The two batch texts of a demonstration. The first seals the same text again and again on the
-- context of a fresh key's sender, the second opens those ciphertexts on the context of its
-- recipient. A byte string is a list of numbers below 256.
use Rattle.std.specs.Prelude.{ℕ, ◌%◌, ◌==◌, List, ◌++◌, length, codes}
use Rattle.std.specs.Int.{div_ceil}
use Rattle.std.specs.List.{range_with_len, filter, flat_map}
use Rattle.std.specs.Fork.{slice_chunk}
use Rattle.field_text.specs.Printing.{hex_text}
use Rattle.demo_runs.specs.SetUp.{seed_bytes}

-- `rand H64`
abbrev pub rand_line : ℕ → List ℕ
rand_line seed = codes "rand " ++ (hex_text (seed_bytes seed) ++ codes "\n")

-- a key, a sender to it and the recipient of what the sender sealed, with the suite of HKDF-SHA256
-- and AES-128-GCM (RFC 9180, 7.2 and 7.3), mode base, the info `demo` and LIMIT 65536
abbrev pub set_up_lines : List ℕ
set_up_lines =
    codes "keygen\n"
    ++ codes "send 1 1 0 base 64656d6f - - 65536\n"
    ++ codes "recv 1 1 0 @0 base 64656d6f - - 65536\n"

-- the first five lines of both texts
abbrev pub front_text : ℕ → List ℕ
front_text seed = codes "hpkebatch 1\n" ++ (rand_line seed ++ set_up_lines)

-- ---- the first text

-- `seal 0 - T`
abbrev pub seal_line : List ℕ
seal_line =
    codes "seal 0 - 000102030405060708090a0b0c0d0e0f101112131415161718191a1b1c1d1e1f"
    ++ codes "202122232425262728292a2b2c2d2e2f303132333435363738393a3b3c3d3e3f\n"

-- the numbers below MESSAGES that this lane of LANES lanes has: those that are its number modulo LANES
abbrev pub share_of : ℕ → ℕ → ℕ → List ℕ
share_of messages lanes lane = filter (λ j. j % lanes == lane) (range_with_len 0 messages)

-- a lane: a line `seal` for each of its numbers
abbrev pub sealing_lane : ℕ → ℕ → ℕ → List ℕ
sealing_lane messages lanes lane =
    codes "lane\n" ++ flat_map (λ j. seal_line) (share_of messages lanes lane)

abbrev pub sealing_lanes : ℕ → ℕ → ℕ → List ℕ
sealing_lanes messages lanes count =
    flat_map (sealing_lane messages lanes) (range_with_len 0 count)

abbrev pub sealing_text : ℕ → ℕ → ℕ → List ℕ
sealing_text seed messages lanes =
    front_text seed ++ (sealing_lanes messages lanes lanes ++ codes "end\n")

-- ---- the second text

-- ` - C`
abbrev pub item_text : List ℕ → List ℕ
item_text ct = codes " - " ++ hex_text ct

-- `unsealall 1 - C - C ..`
abbrev pub opening_line : List (List ℕ) → List ℕ
opening_line cts = codes "unsealall 1" ++ (flat_map item_text cts ++ codes "\n")

-- the most ciphertexts of a line
abbrev pub opening_size : ℕ
opening_size = 256

-- how many lines so many ciphertexts need
abbrev pub opening_count : ℕ → ℕ
opening_count messages = div_ceil messages opening_size

-- so many lines, the ciphertexts in their order, as many in each line as there may be
abbrev pub opening_lines : List (List ℕ) → ℕ → List ℕ
opening_lines cts count =
    flat_map (λ n. opening_line (slice_chunk cts opening_size n)) (range_with_len 0 count)

abbrev pub opening_text : ℕ → List (List ℕ) → List ℕ
opening_text seed cts =
    front_text seed
    ++ (codes "lane\n" ++ (opening_lines cts (opening_count (length cts)) ++ codes "end\n"))
