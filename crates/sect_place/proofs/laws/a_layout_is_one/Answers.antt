use Rattle.sect_place.proofs.Single.{layout_rises, layouts_same}
use Rattle.sect_place.proofs.laws.a_layout_is_one.Goals as goal

pub returns-clause-rising : goal.returns-clause-rising
returns-clause-rising c = λ kept sections slots islands sizes command layout once is. layout_rises kept sections slots islands sizes command layout once is

pub returns-clause-one : goal.returns-clause-one
returns-clause-one c = λ kept sections slots islands sizes command a b once f g. layouts_same kept sections slots islands sizes command a b once f g
