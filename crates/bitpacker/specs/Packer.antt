-- What a packer has done so far, and what it asks to go on.
-- Assumes nothing.
use Rattle.std.specs.Prelude.{◌≡◌, List, ◌++◌, ℕ, ◌+◌, ◌*◌, ◌/◌, ◌%◌, ◌^◌, ◌≤◌, ◌<◌, length, take, drop}
use Rattle.format.specs.Word.{AllBelow, bytes_for}
use Rattle.format.specs.Packing.{num_of, rows_bits, bytes_of}
use Rattle.bitpacker.specs.declared.BitPacker.{BitPacker}

-- of some bits the whole words stand written, over the bytes that were there before; the packer holds the rest
pub record Packs (bits before : List ℕ) (p : BitPacker) (out : List ℕ) : Type 0 where
  pub all : AllBelow 2 bits
  pub at_word : p.at ≡ 8 * (length bits / 64)
  pub held_bits : p.held ≡ length bits % 64
  pub hold_is : p.hold ≡ num_of (drop (8 * p.at) bits)
  pub stands : out ≡ bytes_of p.at bits ++ drop p.at before

-- a number of w bits can come next: there is room for its bits
pub record Writable (w value : ℕ) (p : BitPacker) (out : List ℕ) : Type 0 where
  pub bits : List ℕ
  pub before : List ℕ
  pub packs : Packs bits before p out
  pub most : w ≤ 64
  pub fits : value < 2 ^ w
  pub room : length bits + w ≤ 8 * length out

-- what is held can be written
pub record Closable (p : BitPacker) (out : List ℕ) : Type 0 where
  pub bits : List ℕ
  pub before : List ℕ
  pub packs : Packs bits before p out
  pub room : bytes_for (length bits) ≤ length out

-- rows can be packed at w bits to the front of an output
pub record Packable (w : ℕ) (rows out : List ℕ) : Type 0 where
  pub most : w ≤ 64
  pub fits : AllBelow (2 ^ w) rows
  pub room : bytes_for (w * length rows) ≤ length out

-- a loop has packed the first i of its rows: what such a loop's invariant says
pub record Packing (w : ℕ) (rows before : List ℕ) (i : ℕ) (p : BitPacker) (out : List ℕ) : Type 0 where
  pub within : i ≤ length rows
  pub kept : length out ≡ length before
  pub packs : Packs (rows_bits w (take i rows)) before p out
