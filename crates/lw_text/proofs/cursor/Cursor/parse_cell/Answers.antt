-- `parse_cell` promises the tokens up to the mark that ends the cell, or that no token left ends a cell. Each
-- round moves one token that is no mark from the rest to the cell.
use Rattle.lw_text.proofs.Common.{ap, length, arith, ◌∙◌, sym, subst, refl, ◌++◌, ◌≡◌, ◌∷◌, [], append_assoc}
use Rattle.lw_text.proofs.Common.{map_push, map-append, append-nil, ends_cell, token_texts, remaining, Token}
use Rattle.lw_text.proofs.Common.{AllByRecursion, false}
use Rattle.lw_text.proofs.Readings.{AllByRecursion-snoc}
use Rattle.lw_text.proofs.Faults.{Err-clause_known}
use Rattle.lw_text.proofs.cursor.Cursor.parse_cell.Goals as goal

pub cell-smaller : goal.cell-smaller
cell-smaller g c = omega (arith, ap length c.in_ok-token.ensures.token)

pub cell-init : goal.cell-init
cell-init g c = rw c.requires (record { tokens = refl; plain = tt })

-- A token that ends no cell is one more token of the cell.
pub cell-preserved : goal.cell-preserved
cell-preserved g c =
    let token = c.in_ok-token.token in
    rw c.in_ok-push.ensures.ok (record {
      tokens =
          c.cell.invariant.tokens
          ∙ ap (λ ts. c.cell.cell ++ ts) c.in_ok-token.ensures.token
          ∙ sym (append_assoc c.cell.cell (token ∷ []) (remaining c.take.new.self));
      plain =
          subst (AllByRecursion (λ t. ends_cell t ≡ false)) (sym (map_push (λ (t : Token). t.text.now) c.cell.cell token))
          (AllByRecursion-snoc (λ t. ends_cell t ≡ false) (token_texts c.cell.cell) token.text.now c.cell.invariant.plain
          (sym c.ends_cell.ensures ∙ c.if-ends_cell.false));
    })

pub returns-in_err-token : goal.returns-in_err-token
returns-in_err-token g c = Err-clause_known _ _ _ c.from_residual.ensures.1 (λ _. (
  rw (c.cell.invariant.tokens, map-append, c.in_err-token.ensures.err, append-nil) c.cell.invariant.plain,
  c.in_err-token.ensures.fails.1,
))
