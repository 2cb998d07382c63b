-- No second answer meets a contract: two that do are the same, with what they leave in lent memory.
-- Assumes nothing.
use mathlib.Core.Path.{◌≡◌, sym, ◌∙◌}
use mathlib.Core.List.{List}
use Prim.Native.Nat.{ℕ}
use Rattle.answers.specs.OneAnswer.{OneAnswer}
use Rattle.convert.specs.declared.stream.Streamed.{Streamed}
use Rattle.convert.specs.Stream.{Stream, Streams}
use Rattle.convert.proofs.file.npy_of_pack.Reads as npy-of-pack
use Rattle.convert.proofs.pack.pack_of_npy.Reads as pack-of-npy

-- whatever is streamed
streams-one : {s : Stream} {l : List ℕ} {r r' : Streamed} {m m' : List ℕ} → Streams s l r m → Streams s l r' m' → (r ≡ r') × (m ≡ m')
streams-one p q = (p.told ∙ sym q.told, p.stored ∙ sym q.stored)

pub npy-of-pack-one : OneAnswer npy-of-pack.Learnt (λ κs s. s.1.0.now)
npy-of-pack-one κs a r r' s s' p q = streams-one p q

pub pack-of-npy-one : OneAnswer pack-of-npy.Learnt (λ κs s. s.1.1.0.now)
pack-of-npy-one κs a r r' s s' p q = streams-one p q
