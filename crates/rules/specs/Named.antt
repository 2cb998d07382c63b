-- Rules a) to k) by name, where the reader is lent no range: each as the reader has it, and the first that refuses.
use Rattle.std.specs.Prelude.{ℕ, ◌-◌, ◌<◌, ◌≡◌, List, length, None}
use Rattle.answers.specs.Table.{Answer}
use Rattle.layout.specs.declared.control.ParseControl.{ParseControl}
use Rattle.layout.specs.declared.rule.Rule.{Rule}
use Rattle.layout.specs.declared.rule.Rule.TheVariants.{A, B, C, D, E, F, G, H, I, J, K}
use Rattle.layout.specs.Ruled.{Ruled, behind}
use Rattle.layout.specs.Header.{said_size, control_of, body_at, header_of, rule_a, rule_b}
use Rattle.layout.specs.Size.{rule_c, rule_d, rule_e, rule_f, rule_g, fit_ruled}
use Rattle.elements.specs.Elements.{head_of}
use Rattle.rules.specs.Rules.{rule_h, rule_i, rule_j, rule_k, element_ruled}

module _ (bytes : List ℕ) where
  -- a rule of the size, of this pack's N, R and control
  abbrev pub of_size : (ℕ → ℕ → ParseControl → Answer) → Answer
  of_size rule = rule (said_size bytes) (length bytes - body_at bytes) (control_of bytes)

  abbrev pub rule_of : Rule → Answer
  rule_of A = rule_a (header_of bytes)
  rule_of B = rule_b (header_of bytes)
  rule_of C = of_size rule_c
  rule_of D = of_size rule_d
  rule_of E = of_size rule_e
  rule_of F = of_size rule_f
  rule_of G = of_size rule_g
  rule_of H = rule_h None bytes (head_of bytes)
  rule_of I = rule_i bytes (head_of bytes)
  rule_of J = rule_j bytes (head_of bytes)
  rule_of K = rule_k bytes (head_of bytes)

-- a) to g), and behind them h) to k)
unfoldable pub pack_ruled : List ℕ → Ruled
pack_ruled bytes = behind (fit_ruled bytes) (element_ruled (rule_of bytes H) bytes (head_of bytes))

-- ---- a pack that rule x refuses: the rules before it pass, and it refuses
abbrev pub rank : Rule → ℕ
rank A = 0
rank B = 1
rank C = 2
rank D = 3
rank E = 4
rank F = 5
rank G = 6
rank H = 7
rank I = 8
rank J = 9
rank K = 10

pub record RefusedBy (bytes : List ℕ) (x : Rule) : Type 0 where
  pub before : (y : Rule) → rank y < rank x → (rule_of bytes y).number ≡ 0
  pub refuses : (rule_of bytes x).number ≡ 0 → ⊥
