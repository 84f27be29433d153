use Rattle.std.proofs.Common.{◌≡◌, ℕ, ◌+◌, ◌-◌, ◌^◌, min, true, List, [], ◌++◌, length, Ok, sym, ap, ◌∙◌, subst, arith, length-append, rules}
use Rattle.std.proofs.lemmas.List.{append-nil}
use Rattle.writing.specs.Drafts.{fits, Writes}
use Rattle.writing.proofs.Filling.{fits_capped, writes, Going, going_start, going_more, going_all}
use Rattle.writing.proofs.tag.write_three.Goals as goal

-- what the test for room says of all three pieces
room_is : (space : ℕ) (x y z : List ℕ) (m n : ℕ) → m ≡ min (length x + length y) (2 ^ 64 - 1) → n ≡ min (m + length z) (2 ^ 64 - 1)
    → fits space n ≡ fits space (length (x ++ (y ++ z)))
room_is space x y z m n e f =
    let long : length (x ++ (y ++ z)) ≡ length x + (length y + length z) = simp length-append in
    let sum : n ≡ min (length (x ++ (y ++ z))) (2 ^ 64 - 1) = omega arith in
    ap (fits space) sum ∙ fits_capped space (length (x ++ (y ++ z)))

pub returns : goal.returns
returns c =
    let x = c.args.first.now in
    let y = c.args.second.now in
    let z = c.args.third.now in
    let s = c.args.series in
    let before = c.args.space.now in
    let all = x ++ (y ++ z) in
    let room : fits (length before) (length all) ≡ true =
    sym (room_is (length before) x y z c.saturating_add.result c.saturating_add-size.result c.saturating_add.ensures c.saturating_add-size.ensures)
    ∙ sym c.if-not-has_room.ensures in
    let start = c.start-draft.result in
    let g0 = going_start all before start c.start-draft.ensures.content c.start-draft.ensures.space room in
    let d1 = c.add.new.self in
    let d2 = c.add-2.new.self in
    let d = c.add-3.new.self in
    let g1 = going_more all x (y ++ z) start start d1 c.add.result g0 c.add.ensures.does c.add.ensures.lends in
    let g2 = going_more all y z start d1 d2 c.add-2.result g1 c.add-2.ensures.does c.add-2.ensures.lends in
    let left_over = subst (λ w. Going all start w d2) (sym (append-nil z)) g2 in
    let g3 = going_more all z [] start d2 d c.add-3.result left_over c.add-3.ensures.does c.add-3.ensures.lends in
    let filled = going_all all start d g3 in
    let done = writes s all before c.seal.new.self.0 start d c.seal.result room c.start-draft.ensures.content c.start-draft.ensures.space
    c.start-draft.ensures.series filled.0 filled.1 g3.same_series c.seal.ensures in
    subst (λ x. Writes s all before x (Ok c.seal.result)) (search rules) done
