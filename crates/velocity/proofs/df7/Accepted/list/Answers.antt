use Rattle.std.proofs.Common.{◌≡◌, List, [], ◌∷◌, ◌++◌, ap, ◌∙◌, subst}
use Rattle.format.specs.declared.format.Part.{Part}
use Rattle.format.specs.Meaning.{Leaves, accepted}
use Rattle.velocity.specs.Layout.{field_part, field_parts}
use Rattle.velocity.specs.Df7.{df7_fields, df7_spare, df7_tail}
use Rattle.velocity.proofs.df7.Accepted.list.Goals as goal

-- equal parts make equal lists
equal : {a b a' b' : Part} → a ≡ a' → b ≡ b' → ◌≡◌ {A = List Part} (a ∷ (b ∷ [])) (a' ∷ (b' ∷ []))
equal p q = cc

pub returns : goal.returns
returns c =
    let s = c.args.self.now.fixed.bytes.now in
    let spare : c.bytes_between-spare.result ≡ df7_spare s = cc in
    let tail : c.bytes_between-tail.result ≡ df7_tail s = cc in
    let others = equal (c.field_part.ensures ∙ ap (field_part 22) spare) (c.field_part-2.ensures ∙ ap (field_part 23) tail) in
    let all = ap (λ fs. field_parts 1 fs ++ (c.field_part.result ∷ (c.field_part-2.result ∷ []))) c.fixed_fields.ensures
    ∙ ap (λ ps. field_parts 1 df7_fields ++ ps) others in
    subst (λ ps. Leaves (accepted ps) c.args.out.now c.list_layout.new.out c.list_layout.result) all c.list_layout.ensures
