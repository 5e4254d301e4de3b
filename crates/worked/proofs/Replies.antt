-- The worked cases on replies: each is computed. Assumes nothing.
use Rattle.std.proofs.Common.{refl}
use lib.Ieee.{is_nan, of_bits, to_bits}
use Rattle.checksum.specs.Crc.{crc, updated, bits_in, bit_in, shifted}
use Rattle.telegram.specs.Layout.{covered, frame_bytes}
use Rattle.worked.specs.Cases as spec

pub answers : spec.Replies
unfolding frame_bytes covered crc updated bits_in bit_in shifted is_nan of_bits to_bits
answers =
    record {
      printed = refl;
      absent = refl;
      sixteen = refl;
      seventeen = refl;
      fills = refl;
      protected_byte = refl;
      outside = refl;
      last_24h = refl;
      last_00h = refl;
    }
