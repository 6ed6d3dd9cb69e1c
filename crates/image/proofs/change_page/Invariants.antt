use Rattle.image.proofs.change_page.Given as goal

abbrev pub ghost-change_places : goal.ghost-change_places
ghost-change_places g a = g.rule
