-- The bytes of an entry. Assumes nothing.
use Rattle.std.specs.Prelude.{ℕ, ◌^◌, ◌<◌, List, ◌++◌, take, drop, slice_index}
use Rattle.common.specs.Numbers.{number, le}
use Rattle.register.specs.declared.entry.Entry.{Entry}

-- how many bytes an entry has
abbrev pub entry_size : ℕ
entry_size = 16

-- the fields in their order: place 8 bytes, length 2, kind 1, series 1, verdict 2, fault 2
unfoldable pub field_bytes : ℕ → ℕ → ℕ → ℕ → ℕ → ℕ → List ℕ
field_bytes place len kind series verdict fault =
    le 8 place ++ (le 2 len ++ (le 1 kind ++ (le 1 series ++ (le 2 verdict ++ le 2 fault))))

abbrev pub entry_bytes : Entry → List ℕ
entry_bytes e = field_bytes e.place e.len e.kind e.series e.verdict e.fault

-- the entry that some bytes are
abbrev pub entry_of : List ℕ → Entry
entry_of s = record {
  place = number (take 8 s);
  len = number (take 2 (drop 8 s));
  kind = slice_index s 10;
  series = slice_index s 11;
  verdict = number (take 2 (drop 12 s));
  fault = number (take 2 (drop 14 s));
}

-- the fields fit their bytes
pub record Fits (e : Entry) : Type 0 where
  pub place : e.place < 2 ^ 64
  pub len : e.len < 2 ^ 16
  pub kind : e.kind < 2 ^ 8
  pub series : e.series < 2 ^ 8
  pub verdict : e.verdict < 2 ^ 16
  pub fault : e.fault < 2 ^ 16
