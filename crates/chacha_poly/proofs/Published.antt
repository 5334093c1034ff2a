-- A published seal, computed by the definition.
use Rattle.std.proofs.Common.{◌≡◌, codes, refl}
use Rattle.byte_strings.specs.Bytes.{i2osp}
use Rattle.rand_core.specs.Steps.{u32_at}
use Rattle.rand_chacha.specs.Block.{quarter_round, column_round, diagonal_round, double_rounds}
use Rattle.chacha20.specs.ChaCha20.{initial, serialized, stirred, block, key_stream, encrypt}
use Rattle.poly1305.specs.Poly1305.{number, clamped, first_blocks, polynomial, tag_with}
use Rattle.chacha_poly.specs.Aead.{tag_of, seal}

-- RFC 8439, 2.8.2
pub seal_published : seal (i2osp 0x808182838485868788898a8b8c8d8e8f909192939495969798999a9b9c9d9e9f 32) (i2osp 0x070000004041424344454647 12)
    (i2osp 0x50515253c0c1c2c3c4c5c6c7 12)
    (codes "Ladies and Gentlemen of the class of '99: If I could offer you only one tip for the future, sunscreen would be it.")
    ≡ i2osp 0xd31a8d34648e60db7b86afbc53ef7ec2a4aded51296e08fea9e2b5a736ee62d63dbea45e8ca9671282fafb69da92728b1a71de0a9e060b2905d6a5b67ecd3b3692ddbd7f2d778b8c9803aee328091b58fab324e4fad675945585808b4831d7bc3ff4def08e4b7a9de576d26586cec64b61161ae10b594f09e26a7e902ecbd0600691 130
unfolding u32_at quarter_round column_round diagonal_round double_rounds initial serialized stirred block key_stream encrypt number clamped first_blocks polynomial tag_with tag_of seal
seal_published = refl

pub ruleset seals = (seal_published)
