-- No second answer meets a contract: two that do are the same, with what they leave on the page.
-- Assumes nothing.
use Rattle.answers.specs.OneAnswer.{OneAnswer}
use Rattle.text.specs.Page.{filled}
use Rattle.text.proofs.OneAnswer.{adds_one}
use Rattle.lines.proofs.values.put_entries.Reads as put_entries
use Rattle.lines.proofs.values.put_values.Reads as put-values
use Rattle.lines.proofs.refusal.put_refused.Reads as Put-refused
use Rattle.lines.proofs.refusal.put_refusal.Reads as put-refusal
use Rattle.lines.proofs.line.put_counts.Reads as put-counts
use Rattle.lines.proofs.line.put_line.Reads as put-line
use Rattle.lines.proofs.line.put_rows.Reads as put-rows

pub put-entries-one : OneAnswer put_entries.Learnt (λ κs s. filled s.1.1.1.0.now)
put-entries-one κs a r r' s s' p q = adds_one p q

pub put-values-one : OneAnswer put-values.Learnt (λ κs s. filled s.1.1.0.now)
put-values-one κs a r r' s s' p q = adds_one p q

pub put-refused-one : OneAnswer Put-refused.Learnt (λ κs s. filled s.1.0.now)
put-refused-one κs a r r' s s' p q = adds_one p q

pub put-refusal-one : OneAnswer put-refusal.Learnt (λ κs s. filled s.1.0.now)
put-refusal-one κs a r r' s s' p q = adds_one p q

pub put-counts-one : OneAnswer put-counts.Learnt (λ κs s. filled s.1.1.1.0.now)
put-counts-one κs a r r' s s' p q = adds_one p q

pub put-line-one : OneAnswer put-line.Learnt (λ κs s. filled s.1.1.1.1.0.now)
put-line-one κs a r r' s s' p q = adds_one p q

pub put-rows-one : OneAnswer put-rows.Learnt (λ κs s. filled s.1.0.now)
put-rows-one κs a r r' s s' p q = adds_one p q
