-- A published product, computed by the definition.
use Rattle.std.proofs.Common.{◌≡◌, refl}
use Rattle.ghash_core.specs.Field.{by_u, by_power, low_product, product}

pub product_published : product 0x0388dace60b6a392f328c2b971b2fe78 0x66e94bd4ef8a2c3b884cfa59ca342b2e
    ≡ 0x5e2ec746917062882c85b0685353deb7
unfolding by_u by_power low_product product
product_published = refl

pub ruleset products = (product_published)
