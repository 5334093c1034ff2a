-- Published vectors, computed by the definition.
use Rattle.std.proofs.Common.{◌≡◌, [], refl}
use Rattle.byte_strings.specs.Bytes.{i2osp}
use Rattle.ghash_core.specs.Field as F
use Rattle.ghash_core.specs.Field.{by_u}
use Rattle.ghash_core.specs.Hash.{block_of, block_bytes, first_blocks, ghash}
use Rattle.aes_block.specs.Field.{xtime, by_power, low_product, product, inverse_among, inverse, affine_bits, s_box}
use Rattle.aes_block.specs.Cipher.{temp, key_expansion, expanded_key, cipher_rounds, state_after, sub_bytes, shift_rows, mix_columns}
use Rattle.aes_gcm.specs.Gcm.{hash_key, counter_block, key_stream, gctr_from, tag_of, seal}

pub no_text_published : seal (i2osp 0 16) (i2osp 0 12) [] [] ≡ i2osp 0x58e2fccefa7e3061367f1d57a4e7455a 16
unfolding xtime by_power low_product product inverse_among inverse affine_bits s_box temp key_expansion expanded_key sub_bytes shift_rows mix_columns state_after cipher_rounds by_u F.by_power F.low_product F.product F.power block_of block_bytes first_blocks ghash hash_key counter_block key_stream gctr_from tag_of seal
no_text_published = refl

pub one_block_published : seal (i2osp 0 16) (i2osp 0 12) [] (i2osp 0 16)
    ≡ i2osp 0x0388dace60b6a392f328c2b971b2fe78ab6e47d42cec13bdf53a67b21257bddf 32
unfolding xtime by_power low_product product inverse_among inverse affine_bits s_box temp key_expansion expanded_key sub_bytes shift_rows mix_columns state_after cipher_rounds by_u F.by_power F.low_product F.product F.power block_of block_bytes first_blocks ghash hash_key counter_block key_stream gctr_from tag_of seal
one_block_published = refl

pub ruleset seals = (no_text_published, one_block_published)
