-- No second answer meets a contract: two that do are the same, with what they leave on a page.
-- Assumes nothing.
use Rattle.answers.specs.OneAnswer.{OneAnswer}
use Rattle.text.specs.Page.{filled}
use Rattle.text.proofs.OneAnswer.{adds_one}
use Rattle.shown.proofs.bytes.put_bytes.Reads as put-bytes
use Rattle.shown.proofs.lines.put_deviations.Reads as put-deviations
use Rattle.shown.proofs.lines.put_slots.Reads as put-slots
use Rattle.shown.proofs.touched.put_touched.Reads as put-touched
use Rattle.shown.proofs.written.put_written.Reads as Put-written
use Rattle.shown.proofs.pack.put_pack.Reads as put-pack

pub put-bytes-one : OneAnswer put-bytes.Learnt (λ κs s. filled s.1.1.0.now)
put-bytes-one κs a r r' s s' p q = adds_one p q

pub put-deviations-one : OneAnswer put-deviations.Learnt (λ κs s. filled s.1.1.0.now)
put-deviations-one κs a r r' s s' p q = adds_one p q

pub put-slots-one : OneAnswer put-slots.Learnt (λ κs s. filled s.1.1.1.1.0.now)
put-slots-one κs a r r' s s' p q = adds_one p q

pub put-touched-one : OneAnswer put-touched.Learnt (λ κs s. filled s.1.0.now)
put-touched-one κs a r r' s s' p q = adds_one p q

pub put-written-one : OneAnswer Put-written.Learnt (λ κs s. filled s.1.1.1.0.now)
put-written-one κs a r r' s s' p q = adds_one p q

pub put-pack-one : OneAnswer put-pack.Learnt (λ κs s. filled s.1.1.1.1.1.0.now)
put-pack-one κs a r r' s s' p q = adds_one p q
