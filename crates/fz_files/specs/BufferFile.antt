-- The buffers that `unpack` with one worker takes for the packed file of `PlainFile`, written out by hand.
use Rattle.std.specs.Prelude.{ℕ, List, [], ◌∷◌}

-- the bound: two headers of 2,880 bytes, 5,760 bytes, two slots of 16 * 4 + 64 bytes for tiles of 4 pixels, and 65,536 bytes
abbrev pub unpack_bound : ℕ
unpack_bound = 77312

-- each taking with what is live before it: the block, the room for headers and each of both headers while the block is live, and then
-- the longest header, the translated header, the numbers and the bytes of both slots, and the copy buffer
abbrev pub unpack_takings : List (ℕ × ℕ)
unpack_takings =
    (0, 2880)
    ∷ (2880, 63360)
    ∷ (2880, 2880)
    ∷ (2880, 2880)
    ∷ (2880, 2880)
    ∷ (5760, 5760)
    ∷ (11520, 32)
    ∷ (11552, 96)
    ∷ (11648, 32)
    ∷ (11680, 96)
    ∷ (11776, 65536)
    ∷ []
