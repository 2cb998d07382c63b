-- What the parts that tell of slots may count on, once a pack is accepted.
use Rattle.std.specs.Prelude.{ℕ, suc, ◌<◌, ◌≡◌, List}
use Rattle.layout.specs.Triangle.{slots_of}
use Rattle.layout.specs.declared.header.Head.{Head}
use Rattle.explain.specs.Slots.{slot_from, code_at, slot_code, behind}

-- each slot is told right where the place of the next code is carried along
pub record Told (bytes : List ℕ) (h : Head) : Type 0 where
  pub each : (k : ℕ) → k < slots_of h.n → slot_from bytes h k (code_at bytes h k) ≡ slot_code bytes h k
  pub next : (k : ℕ) → behind (code_at bytes h k) (slot_code bytes h k) ≡ code_at bytes h (suc k)
