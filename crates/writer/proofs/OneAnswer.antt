-- No second answer meets a contract: two that do are the same, with what they leave in lent memory.
-- Assumes nothing.
use Rattle.answers.specs.OneAnswer.{OneAnswer}
use Rattle.answers.specs.Lent.{leaves}
use Rattle.answers.proofs.OneToOne.{writer-one}
use Rattle.writer.specs.Pack.{pack_bytes}
use Rattle.writer.specs.Rules.{default_clen}
use Rattle.writer.proofs.write.encode_sdcc_flp_mode2.Reads as encode-sdcc-flp-mode2
use Rattle.writer.proofs.write.encode_sdcc_flp.Reads as encode-sdcc-flp

pub encode-sdcc-flp-mode2-one : OneAnswer encode-sdcc-flp-mode2.Learnt (λ κs s. s.1.1.1.0.now)
encode-sdcc-flp-mode2-one κs a r r' s s' p q = writer-one (λ x. leaves x (pack_bytes a.0.now a.1.0.now a.1.1.0) a.1.1.1.0.now) r r' p q

pub encode-sdcc-flp-one : OneAnswer encode-sdcc-flp.Learnt (λ κs s. s.1.1.0.now)
encode-sdcc-flp-one κs a r r' s s' p q = writer-one (λ x. leaves x (pack_bytes a.0.now a.1.0.now default_clen) a.1.1.0.now) r r' p q
