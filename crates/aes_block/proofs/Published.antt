-- The standard's example vectors (FIPS 197, C.1 and C.3), computed by the definition.
use Rattle.std.proofs.Common.{◌≡◌, refl}
use Rattle.byte_strings.specs.Bytes.{i2osp}
use Rattle.aes_block.specs.Field.{xtime, by_power, low_product, product, inverse_among, inverse, affine_bits, s_box}
use Rattle.aes_block.specs.Cipher.{temp, key_expansion, expanded_key, cipher, cipher_rounds, state_after, sub_bytes, shift_rows, mix_columns}

pub aes128_published : cipher (i2osp 0x000102030405060708090a0b0c0d0e0f 16) (i2osp 0x00112233445566778899aabbccddeeff 16)
    ≡ i2osp 0x69c4e0d86a7b0430d8cdb78070b4c55a 16
unfolding xtime by_power low_product product inverse_among inverse affine_bits s_box temp key_expansion expanded_key sub_bytes shift_rows mix_columns state_after cipher_rounds
aes128_published = refl

pub aes256_published : cipher (i2osp 0x000102030405060708090a0b0c0d0e0f101112131415161718191a1b1c1d1e1f 32) (i2osp 0x00112233445566778899aabbccddeeff 16)
    ≡ i2osp 0x8ea2b7ca516745bfeafc49904b496089 16
unfolding xtime by_power low_product product inverse_among inverse affine_bits s_box temp key_expansion expanded_key sub_bytes shift_rows mix_columns state_after cipher_rounds
aes256_published = refl

pub ruleset ciphers = (aes128_published, aes256_published)
