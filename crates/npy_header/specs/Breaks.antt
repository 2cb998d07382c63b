-- Document 02, K8: the first byte that breaks the header, and a file that no byte breaks.
use Rattle.std.specs.Prelude.{ℕ, suc, ◌≤◌, ◌<◌, ◌≡◌, List, ◌↔◌, length, take}
use Rattle.answers.specs.Table.{passes}
use Rattle.npy_header.specs.Header.{header_length, header, max_size, size_in}
use Rattle.npy_header.specs.Rules.{broken_at, header_rule}

module _ (file : List ℕ) where
  -- the file has so many bytes, and a header, of an N up to 999,999,999, starts with them
  pub record Starts (count : ℕ) : Type 0 where
    pub n : ℕ
    pub small : n ≤ max_size
    pub there : count ≤ length file
    pub same : take count file ≡ take count (header n)

  -- a header starts with the bytes before `at`, and none with those and the byte at `at`; or that is missing, and `at`
  -- is the file's length
  pub record Breaks (at : ℕ) : Type 0 where
    pub within : at < header_length
    pub before : Starts at
    pub here : Starts (suc at) → ⊥

  -- the file starts with the header of n
  pub record Headed (n : ℕ) : Type 0 where
    pub small : n ≤ max_size
    pub same : take header_length file ≡ header n

  pub record HeaderRead : Type 0 where
    -- 11 with an offset exactly where the byte there is the first that breaks the header
    pub broken : (at : ℕ) → (header_rule file ≡ broken_at at) ↔ Breaks at
    -- the header passes, and N is n, exactly where the file starts with the header of n
    pub whole : (n : ℕ) → ((header_rule file ≡ passes) × (size_in file ≡ n)) ↔ Headed n
