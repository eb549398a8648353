-- `open_row` meets its contract. Assumes nothing.
use Rattle.std.proofs.Common.{◌≡◌, refl, sym, ◌∙◌, ap, List, ℕ, zero, suc, ◌+◌, ◌-◌, ◌*◌, ◌%◌, ◌≤◌, length, get_or, set, length-set, length-take, length-drop, arith}
use borrow.Rule.Slice.PartMut.{put_mid}
use Rattle.std.proofs.Math.ListN.{replicate}
use Rattle.std.proofs.Math.Seq.{set-get_or, paste}
use Rattle.std.proofs.lemmas.List.{length-replicate}
use Rattle.std.proofs.lemmas.List.Edits.{paste_none, fill_from_more}
use Rattle.std.proofs.lemmas.Slice.{put_mid-paste}
use Rattle.engine_laws.specs.Wheel.{zeroed, opened, length-opened, opened-there, opened-new}
use Rattle.engine.proofs.wheel.Wheel.open_row.Goals as goal

zeroed-paste : (n : ℕ) (s : List ℕ) (i : ℕ) → i + n ≤ length s → zeroed n s i ≡ paste s i (replicate n 0) n
unfolding zeroed
zeroed-paste zero s i l = paste_none s i (replicate 0 0)
zeroed-paste (suc n) s i l =
    let e : n + 1 ≡ suc n = omega arith in
    ap (λ (z : List ℕ). set z (i + n) 0) (zeroed-paste n s i (omega arith)) ∙ (rw e at (fill_from_more s i n 0 (omega arith)))

pub returns-then-self-q : goal.returns-then-self-q
returns-then-self-q c =
    let a = c.args in
    let e : get_or a.self.now.tag.now (a.w % 512) 0 ≡ a.w = c.if-self-q.true in record {
      rows = sym (opened-there a.self.now.rows.now a.self.now.tag.now a.self.now.width a.w e);
      tag = sym (ap (λ (x : ℕ). set a.self.now.tag.now (a.w % 512) x) (sym e) ∙ set-get_or a.self.now.tag.now (a.w % 512) 0);
      occupied = refl;
      lists = (refl, refl, refl, refl, refl, refl, refl);
    }

pub returns : goal.returns
returns c =
    let a = c.args in
    let old = a.self.now in
    let i = 4 * (a.w % 512) in
    let n : c.fill.new.self ≡ replicate old.width 0 = c.fill.ensures.after (λ y e. e) ∙ ap (λ (k : ℕ). replicate k 0) (simp (length-take, length-drop) (omega arith)) in
    let rows : put_mid i (i + old.width - i) old.rows.now c.fill.new.self ≡ opened old.rows.now old.tag.now old.width a.w =
    put_mid-paste i _ old.rows.now _ (replicate old.width 0) old.width n (omega arith) (sym (length-replicate old.width 0))
    ∙ sym (zeroed-paste old.width old.rows.now i (omega arith)) ∙ sym (opened-new old.rows.now old.tag.now old.width a.w (λ e. omega (arith, c.if-self-q.false))) in
    record {
      rows = rows;
      tag = refl;
      occupied = refl;
      lists = (refl, refl, refl, ap length rows ∙ length-opened old.rows.now old.tag.now old.width a.w, length-set old.tag.now (a.w % 512) a.w, refl, refl);
    }
