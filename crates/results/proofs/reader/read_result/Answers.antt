use Rattle.std.proofs.Common.{◌≡◌, [], ◌∷◌, length, replicate, Err, rules}
use Rattle.results.proofs.Answers.{read_refused}
use Rattle.results.proofs.reader.read_result.Goals as goal

pub returns-in_err-numbers : goal.returns-in_err-numbers
returns-in_err-numbers c =
    let a = c.args in
    let e : c.from_residual.result ≡ Err c.in_err-numbers.field-0.0 = search rules in
    let order : c.fill.new.self ≡ replicate (length a.order.now) 65535 = search rules in
    let ends : c.fill-2.new.self ≡ replicate (length a.ends.now) 65535 = search rules in
    let means : c.fill-3.new.self ≡ replicate (length a.means.now) 0 = search rules in
    rw e (read_refused a.file.now (length a.order.now ∷ length a.ends.now ∷ length a.means.now ∷ []) _ _ _ _ _ _ _ c.in_err-numbers.ensures order ends means)
