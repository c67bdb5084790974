-- The fields of an instruction word.
use Rattle.std.specs.Prelude.{ℕ, ◌*◌, ◌/◌, ◌%◌, ◌^◌, ◌<◌}
use Rattle.std.specs.Int.{w16}
use Rattle.words.specs.Words.{sign_extend}
use Rattle.cpu_decode.specs.declared.fields.Fields.{Fields}

-- a branch's offset is four times the immediate with its sign
unfoldable pub fields_of : ℕ → Fields
fields_of word =
    record {
      rt = word / 0x1_0000 % 32;
      rd = word / 0x800 % 32;
      shift = word / 64 % 32;
      immediate = word % 0x1_0000;
      extended = sign_extend w16 word;
      offset = sign_extend w16 word * 2 ^ 2 % 2 ^ 32;
      target = word % 0x400_0000 * 4;
      word = word;
    }

-- what the widths of the fields give
pub record FieldsOk (f : Fields) : Type 0 where
  pub register : f.rd < 32
  pub amount : f.shift < 32
  pub half : f.immediate < 0x1_0000
  pub jump : f.target < 0x1000_0000
