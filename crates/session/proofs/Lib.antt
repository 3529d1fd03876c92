mod NoteLaws
