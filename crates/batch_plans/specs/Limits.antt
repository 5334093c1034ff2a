-- How large a batch may be. Sizes are in bytes.
use Rattle.std.specs.Prelude.{ℕ, List, take, drop, sum_by}
use Rattle.call_places.specs.declared.spans.Item.{Item}
use Rattle.batch_plans.specs.declared.plan.CallLine.{CallLine}
pub use Rattle.batch_plans.specs.Calls.{items_of, size_of}

-- the whole input
abbrev pub most_input : ℕ
most_input = 67108864

abbrev pub most_keys : ℕ
most_keys = 64

abbrev pub most_contexts : ℕ
most_contexts = 256

abbrev pub most_lanes : ℕ
most_lanes = 16

-- the items of one opening of several messages
abbrev pub most_opening : ℕ
most_opening = 4096

-- the items in all lanes
abbrev pub most_items : ℕ
most_items = 65536

-- the sum of LEN of all lanes
abbrev pub most_exported : ℕ
most_exported = 16777216

-- AAD, and each other bytes field that has no limit of its own
abbrev pub most_field : ℕ
most_field = 65535

-- PT
abbrev pub most_plaintext : ℕ
most_plaintext = 1048576

-- CT: a plaintext and its tag
abbrev pub most_ciphertext : ℕ
most_ciphertext = 1048592

-- CTX of a context line is below this number, and the context of `add` line K has it plus K
abbrev pub first_name : ℕ
first_name = 65536

-- so many of the plan's items, from this one on
abbrev pub items_from : List Item → ℕ → ℕ → List Item
items_from items first count = take count (drop first items)

-- the items in all lanes
abbrev pub all_items : List (List CallLine) → ℕ
all_items lanes = sum_by (λ lane. sum_by items_of lane) lanes

-- the sum of LEN of all lanes
abbrev pub all_sizes : List (List CallLine) → ℕ
all_sizes lanes = sum_by (λ lane. sum_by size_of lane) lanes
